-- What the lister is asked for: the byte address from which it lists, and the most bytes of an image that it takes.
use Rattle.std.specs.Prelude.{List, ℕ}
use Rattle.rom.specs.Bits.{image_limit}
use Rattle.lister.specs.Address.{address_of}
use Rattle.lister.specs.declared.asked.Asked.{Asked}

-- the most bytes of an image without an argument (01, "Numbers to try", the lister)
abbrev pub limit : ℕ
limit = 65536

-- without an argument: the start of the image
abbrev pub at_start : Asked
at_start = record { address = 0; most = limit }

-- with the address a: any image of the library is taken
abbrev pub at_address : ℕ → Asked
at_address a = record { address = a; most = image_limit }

-- with an argument: the address that it gives
abbrev pub at_argument : List ℕ → Asked
at_argument text = at_address (address_of text)
