-- What a valid address register's fields are, from the tests, and back.
-- Assumes nothing.
use mathlib.Core.Path.{◌≡◌}
use mathlib.Core.Bool.{true}
use Prim.Native.Nat.{◌≤◌, ◌<◌}
use borrow.Author.Tests.{leb-true, ltb-true, le-leb, lt-ltb}
use lib.Dec.{leb, ltb}
use Rattle.base.proofs.Booleans.{both_true}
use Rattle.address.specs.Addresses.{position_limit, nibbles, address_valid}
use Rattle.address.specs.declared.AddressRegister.{AddressRegister}

pub address_ranges : (p : AddressRegister) → address_valid p ≡ true → (p.position ≤ position_limit) × (p.next_nibble < nibbles)
address_ranges p h =
    let r = both_true (leb p.position position_limit) (ltb p.next_nibble nibbles) h in
    (leb-true _ _ r.0, ltb-true _ _ r.1)

pub address_in_range : (p : AddressRegister) → p.position ≤ position_limit → p.next_nibble < nibbles → address_valid p ≡ true
address_in_range p h n = rw (le-leb p.position position_limit h, lt-ltb p.next_nibble nibbles n)
