-- The opening: power-up takes Load Frame Rate bytes and five loads, and the position is then the address's first bit.
-- Assumes nothing.
use mathlib.Core.Path.{◌≡◌, refl, sym, ap, ap₂, ◌∙◌, subst}
use mathlib.Core.Bool.{true}
use mathlib.Core.List.{List, [], ◌∷◌, ◌++◌, map}
use Prim.Native.Nat.{ℕ, ◌+◌, ◌*◌, ◌/◌, ◌%◌, ◌^◌, ◌≤◌, ◌<◌}
use native.Mathlib.Nat.{mod-eq_of_lt, div-eq_of_lt, mod-lt, mul-le-mul_right, zero-mul, zero-add}
use native.Mathlib.Omega.{arith}
use borrow.Author.Tests.{le-leb, lt-ltb}
use lib.Arith.{mod-mul}
use lib.ListN.{drop}
use Rattle.base.specs.Refusals.{TAKEN}
use Rattle.rom.specs.Bits.{image_valid}
use Rattle.rom.proofs.Checks.{valid_length}
use Rattle.sound.specs.State.{sound_valid, rest_sound, at_rest}
use Rattle.address.specs.Addresses.{position_limit, address_limit, nibbles, with_nibble}
use Rattle.control.specs.State.{power_up_control, with_address}
use Rattle.control.specs.Validity.{control_valid}
use Rattle.control.specs.Commands.{command_of}
use Rattle.control.specs.Device.{rate_of, loaded_rate, device_valid}
use Rattle.control.specs.declared.device.Device.{Device}
use Rattle.control.proofs.Ranges.{loaded_device}
use Rattle.control.specs.declared.commands.Command.TheVariants.{LoadFrameRate, LoadAddress}
use Rattle.fifo.specs.declared.BitOrder.{BitOrder}
use Rattle.chip.specs.State.{power_up_of}
use Rattle.chip.specs.Validity.{valid}
use Rattle.chip.specs.Write.{write_of}
use Rattle.chip.specs.declared.state.Chip.{Chip}
use Rattle.chip.specs.Types.{Written}
use Rattle.claims.specs.Writes.{after_bytes, refusals_of}
use Rattle.claims.specs.Demand3.{Loads, load_bytes}
use Rattle.claims.specs.Opening.{RateBytes, device_after, opening_bytes, Ready, Opening}
use Rattle.claims.proofs.Answers.{obeys}

-- a device's power-up with an order of the FIFO's bits, at another place
abbrev placed : BitOrder → Device → ℕ → ℕ → Chip
placed q d p i = record { control = with_address (record { position = p; next_nibble = i }) (power_up_control d q); sound = rest_sound }

placed_valid : (q : BitOrder) (d : Device) (p i : ℕ) → device_valid d ≡ true → p ≤ position_limit → i < nibbles → valid (placed q d p i) ≡ true
unfolding valid control_valid sound_valid at_rest
placed_valid q d p i v l n = rw (le-leb p position_limit l, lt-ltb i nibbles n, v)

-- ---- a nibble

-- an address with a nibble more, above those that it has
nibble_above : (i x v : ℕ) → x < 16 ^ i → v < 16 → 16 * 16 ^ i ≤ 65536 → with_nibble (8 * x / 8 % address_limit) i v ≡ v * 16 ^ i + x
nibble_above i x v h g l =
    let e : 8 * x / 8 % address_limit ≡ x = omega arith in
    let m : v * 16 ^ i ≤ 15 * 16 ^ i = mul-le-mul_right (16 ^ i) (omega arith) in
    rw (e, mod-eq_of_lt h, div-eq_of_lt {n = x} {m = 16 * 16 ^ i} (omega arith), zero-mul, zero-add)
    (mod-eq_of_lt (omega arith))

-- the fifth, of which only the two low bits count
fifth_above : (x v q : ℕ) → x < 65536 → v < 16 → v % 4 ≡ q → with_nibble (8 * x / 8 % address_limit) 4 v ≡ q * 65536 + x
fifth_above x v q h g d = let e : 8 * x / 8 % address_limit ≡ x = omega arith in rw e (omega arith)

module _ (image : List ℕ) (i : image_valid image ≡ true) (q : BitOrder) (d : Device) (v : device_valid d ≡ true) (a : ℕ) where
  loads_at : (p n b : ℕ) → p ≤ position_limit → n < nibbles → command_of b ≡ LoadAddress
      → write_of image (placed q d p n) b ≡ record { chip = placed q d (8 * with_nibble (p / 8 % address_limit) n (b % 16)) ((n + 1) % nibbles); refusal = 0 }
  loads_at p n b h g e = obeys image (placed q d p n) b LoadAddress i (placed_valid q d p n v h g) refl refl e refl

  -- each of the first four loads
  loads : (n b : ℕ) → n ≤ 3 → 16 * 16 ^ n ≤ 65536 → 0 < 16 ^ n → command_of b ≡ LoadAddress → b % 16 ≡ a / 16 ^ n % 16
      → write_of image (placed q d (8 * (a % 16 ^ n)) n) b ≡ record { chip = placed q d (8 * (a % (16 * 16 ^ n))) (n + 1); refusal = 0 }
  loads n b l w o e v' =
      let low = mod-lt a o in
      let next : (n + 1) % nibbles ≡ n + 1 = omega arith in
      loads_at (8 * (a % 16 ^ n)) n b (omega arith) (omega arith) e
      ∙ ap₂ (λ (x y : ℕ). record { chip = placed q d (8 * x) y; refusal = 0 })
      (ap (λ (x : ℕ). with_nibble (8 * (a % 16 ^ n) / 8 % address_limit) n x) v'
      ∙ nibble_above n (a % 16 ^ n) (a / 16 ^ n % 16) low (omega arith) w
      ∙ sym (mod-mul a {m = 16} {c = 16 ^ n} (omega arith) o))
      next

  loads_fifth : (b : ℕ) → a < address_limit → command_of b ≡ LoadAddress → b % 4 ≡ a / 65536 % 4
      → write_of image (placed q d (8 * (a % 65536)) 4) b ≡ record { chip = placed q d (8 * a) 0; refusal = 0 }
  loads_fifth b l e two =
      let low : b % 16 % 4 ≡ a / 65536 = omega arith in
      loads_at (8 * (a % 65536)) 4 b (omega arith) (omega arith) e
      ∙ ap (λ (x : ℕ). record { chip = placed q d (8 * x) 0; refusal = 0 }) (fifth_above (a % 65536) (b % 16) (a / 65536) (omega arith) (omega arith) low ∙ omega arith)

  -- a Load Frame Rate byte, anywhere
  rate_at : (p n b : ℕ) → p ≤ position_limit → n < nibbles → command_of b ≡ LoadFrameRate
      → write_of image (placed q d p n) b ≡ record { chip = placed q (loaded_rate d b) p n; refusal = 0 }
  rate_at p n b h g e = obeys image (placed q d p n) b LoadFrameRate i (placed_valid q d p n v h g) refl refl e refl

-- ---- bytes that are taken one after another

data Taken (image : List ℕ) : Chip → List ℕ → Chip → Type 0 where
  done : {c : Chip} → Taken image c [] c
  then : {c d e : Chip} {b : ℕ} {bs : List ℕ} → write_of image c b ≡ record { chip = d; refusal = 0 } → Taken image d bs e
      → Taken image c (b ∷ bs) e

taken_numbers : {image bs : List ℕ} {c e : Chip} → Taken image c bs e → refusals_of image c bs ≡ map (λ (b : ℕ). 0) bs
taken_numbers done = refl
taken_numbers {image} (then {bs = bs} p w) =
    ap (λ (r : Written). r.refusal ∷ refusals_of image r.chip bs) p ∙ ap (λ (l : List ℕ). 0 ∷ l) (taken_numbers w)

taken_chip : {image bs : List ℕ} {c e : Chip} → Taken image c bs e → after_bytes image c bs ≡ e
taken_chip done = refl
taken_chip {image} (then {bs = bs} p w) = ap (λ (r : Written). after_bytes image r.chip bs) p ∙ taken_chip w

taken_both : {image xs ys : List ℕ} {c d e : Chip} → Taken image c xs d → Taken image d ys e → Taken image c (xs ++ ys) e
taken_both done v = v
taken_both (then p w) v = then p (taken_both w v)

-- ---- the device

after_both : (d : Device) (xs ys : List ℕ) → device_after d (xs ++ ys) ≡ device_after (device_after d xs) ys
after_both d [] ys = refl
after_both d (b ∷ xs) ys = after_both (loaded_rate d b) xs ys

pub after_valid : (d : Device) (bs : List ℕ) → device_valid d ≡ true → device_valid (device_after d bs) ≡ true
after_valid d [] v = v
after_valid d (b ∷ bs) v = after_valid (loaded_rate d b) bs (loaded_device d b)

module _ (image : List ℕ) (i : image_valid image ≡ true) (q : BitOrder) where
  rates_taken : (d : Device) (p : ℕ) (bs : List ℕ) → device_valid d ≡ true → p ≤ position_limit → RateBytes bs
      → Taken image (placed q d p 0) bs (placed q (device_after d bs) p 0)
  rates_taken d p [] v h r = done
  rates_taken d p (b ∷ bs) v h r =
      then (rate_at image i q d v 0 p 0 b h (omega arith) r.0) (rates_taken (loaded_rate d b) p bs (loaded_device d b) h r.1)

  loads_taken : (d : Device) → device_valid d ≡ true → (a : ℕ) → a < address_limit → (l : Loads a)
      → Taken image (placed q d 0 0) (load_bytes l) (placed q d (8 * a) 0)
  loads_taken d v a small l =
      let none : a % 1 ≡ 0 = omega arith in
      let one : a / 1 % 16 ≡ a % 16 = omega arith in
      then
      (subst (λ (x : ℕ). write_of image (placed q d (8 * x) 0) l.byte0 ≡ record { chip = placed q d (8 * (a % 16)) 1; refusal = 0 }) none
      (loads image i q d v a 0 l.byte0 (omega arith) (omega arith) (omega arith) l.load0.0 (l.load0.1 ∙ sym one)))
      (then (loads image i q d v a 1 l.byte1 (omega arith) (omega arith) (omega arith) l.load1.0 l.load1.1)
      (then (loads image i q d v a 2 l.byte2 (omega arith) (omega arith) (omega arith) l.load2.0 l.load2.1)
      (then (loads image i q d v a 3 l.byte3 (omega arith) (omega arith) (omega arith) l.load3.0 l.load3.1)
      (then (loads_fifth image i q d v a l.byte4 small l.load4.0 l.load4.1) done))))

pub opening : Opening
opening image a i inside d v q ls ms rs ts l = (taken_numbers all, subst (Ready _ a) (sym (taken_chip all)) ready)
  where
    small : a < address_limit
    small = omega (arith, (valid_length image i).1)

    set : Device
    set = device_after d ls

    set_valid : device_valid set ≡ true
    set_valid = after_valid d ls v

    all : Taken image (power_up_of d q) (opening_bytes ls l ms) (placed q (device_after set ms) (8 * a) 0)
    all =
        taken_both (rates_taken image i q d 0 ls v (omega arith) rs)
        (taken_both (loads_taken image i q set set_valid a small l) (rates_taken image i q set (8 * a) ms set_valid (omega (arith, small)) ts))

    ready : Ready (rate_of (device_after d (ls ++ ms))) a (placed q (device_after set ms) (8 * a) 0)
    ready = record {
      is_valid = placed_valid q (device_after set ms) (8 * a) 0 (after_valid set ms set_valid) (omega (arith, small)) (omega arith);
      idle_mode = refl;
      nothing_pending = refl;
      not_busy = refl;
      at_byte = refl;
      at_rate = ap rate_of (sym (after_both d ls ms));
    }

-- ---- a byte more

abbrev first : List ℕ → ℕ
first [] = 0
first (n ∷ ns) = n

module _ (image : List ℕ) where
  pub after_more : (c : Chip) (bs : List ℕ) (b : ℕ) → after_bytes image c (bs ++ (b ∷ [])) ≡ (write_of image (after_bytes image c bs) b).chip
  after_more c [] b = refl
  after_more c (x ∷ bs) b = after_more (write_of image c x).chip bs b

  pub refusals_more : (c : Chip) (bs : List ℕ) (b : ℕ) → refusals_of image c bs ≡ map (λ (b : ℕ). TAKEN) bs
      → (write_of image (after_bytes image c bs) b).refusal ≡ TAKEN → refusals_of image c (bs ++ (b ∷ [])) ≡ map (λ (b : ℕ). TAKEN) (bs ++ (b ∷ []))
  refusals_more c [] b h t = ap (λ (n : ℕ). n ∷ []) t
  refusals_more c (x ∷ bs) b h t =
      ap₂ (λ (n : ℕ) (ns : List ℕ). n ∷ ns) (ap first h) (refusals_more (write_of image c x).chip bs b (ap (drop 1) h) t)
