-- The power-up state, and the device's numbers.
use Rattle.base.specs.Units.{samples_per_interval, intervals_per_frame}
use Rattle.rom.specs.Bits.{image_limit}
use Rattle.address.specs.Addresses.{position_limit, rom_size, address_limit, nibbles}
use Rattle.fifo.specs.Buffer.{fifo_size, low_level}
use Rattle.rates.specs.Rates.{power_up_rate}
use Rattle.sound.specs.State.{rest_sound}
use Rattle.control.specs.State.{start_level, power_up_control}
use Rattle.chip.specs.Types.{BitOrder, LeastFirst, Device, Tms5220, Tms5220C, Chip, DeviceNumbers}

-- power-up of a device, with an order of the FIFO's bits (01, "Commands, FIFO, status"; 02, §9): the control's, silent
abbrev pub power_up_of : Device → BitOrder → Chip
power_up_of d o = record { control = power_up_control d o; sound = rest_sound }

-- of the TMS5220 and TMS5200
abbrev pub power_up_with : BitOrder → Chip
power_up_with = power_up_of Tms5220

-- the plain one: least significant bit first (02, §9)
abbrev pub power_up : Chip
power_up = power_up_with LeastFirst

-- of the TMS5220C (02, §5): v = 0, rr = 00
abbrev pub power_up_5220c_with : BitOrder → Chip
power_up_5220c_with = power_up_of (Tms5220C power_up_rate)

-- the plain one
abbrev pub power_up_5220c : Chip
power_up_5220c = power_up_5220c_with LeastFirst

-- the numbers of the device, by the definitions that use them
abbrev pub device_numbers : DeviceNumbers
device_numbers = record {
  fifo_size = fifo_size;
  low_level = low_level;
  start_level = start_level;
  nibbles = nibbles;
  image_limit = image_limit;
  position_limit = position_limit;
  rom_size = rom_size;
  address_limit = address_limit;
  samples_per_interval = samples_per_interval;
  intervals_per_frame = intervals_per_frame;
}
