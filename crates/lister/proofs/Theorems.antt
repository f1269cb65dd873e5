-- The theorems of specs/Theorems.antt.
-- Assumes nothing.
use mathlib.Core.Path.{◌≡◌, refl, sym, ◌∙◌}
use Prim.Native.Nat.{◌+◌, ◌*◌, ◌/◌}
use native.Mathlib.Omega.{arith}
use borrow.Author.Tests.{le-leb, le-ltb, ltb-false}
use lib.Dec.{ltb}
use lib.ListN.{length, drop, length-drop}
use lib.Seq.{length-take-le}
use Rattle.base.specs.Refusals.{IMAGE}
use Rattle.rom.specs.Bits.{image_limit, image_valid, bit, field, digits}
use Rattle.rom.specs.Frames.{pitch_width}
use Rattle.rom.specs.Items.{bits_all, items_from}
use Rattle.rom.specs.Phrases.{frame_code, walk_of, phrase_of}
use Rattle.rom.specs.Reader.{decoded, short_of, frame_from}
use Rattle.base.proofs.Booleans.{either_way, by_test}
use Rattle.rom.proofs.Checks.{valid_length}
use Rattle.rom.proofs.Encoding.{begins_room}
use Rattle.rom.proofs.Theorems.{walk_counts, walk_refuses}
use Rattle.lister.specs.Text.{digits_of, decimal}
use Rattle.lister.specs.Lines.{kind_word, pitch_text, k_count, indexes, frame_line, phrase_line, refused_line, cut_line, walk_line}
use Rattle.lister.specs.Asked.{at_address}
use Rattle.lister.specs.Listing.{lines_of, listing_of, listing_from}
use Rattle.lister.proofs.PhraseLines.{frames_found}
use Rattle.lister.proofs.ListingLaws.{listing_long}
use Rattle.lister.proofs.Spelling.{address_of_decimal}
use Rattle.lister.specs.Theorems.{ListsPhrase, ListsNoPhrase, ListsBeyond, ListsTooLong, ListsNoImage, ListsAtArgument, ListsExample, ListsExampleFrom, ListsExampleCut}

pub lists_phrase : ListsPhrase
unfolding listing_of phrase_of
lists_phrase q s fs v h p =
    let a = q.address in
    let bits = bits_all (frame_code pitch_width) fs in
    let w = walk_counts pitch_width s a fs v p in
    let room = begins_room s (8 * a) bits p.encoded.begins in
    let size = length-take-le ((length bits + 7) / 8) (drop a s) (simp length-drop (omega (arith, room))) in
    rw (le-ltb q.most (length s) h, w, size, frames_found s a fs p)

pub lists_no_phrase : ListsNoPhrase
unfolding listing_of walk_line short_of
lists_no_phrase q s v h inside none fs there =
    rw (le-ltb q.most (length s) h, walk_refuses pitch_width s q.address v inside none fs there)

pub lists_beyond : ListsBeyond
unfolding listing_of walk_of walk_line
lists_beyond q s v h past = rw (le-ltb q.most (length s) h, v, le-leb (length s) q.address past)

pub lists_too_long : ListsTooLong
lists_too_long = listing_long

pub lists_no_image : ListsNoImage
unfolding listing_of walk_of walk_line
lists_no_image q s v = by_test (λ l. l ≡ refused_line IMAGE) (ltb q.most (length s)) (λ t. refl) (λ t. rw v)

pub lists_at_argument : ListsAtArgument
lists_at_argument a s =
    rw (address_of_decimal a)
    (by_test (λ n. listing_from n s ≡ listing_from a s) (ltb a image_limit) (λ t. refl)
    (λ t. either_way (image_valid s)
    (λ v.
    let h = (valid_length s v).1 in
    lists_beyond _ s v h h ∙ sym (lists_beyond (at_address a) s v h (omega (arith, ltb-false a image_limit t))))
    (λ v. lists_no_image _ s v ∙ sym (lists_no_image (at_address a) s v))))

pub lists_example : ListsExample
unfolding bit field digits items_from walk_of phrase_of decoded frame_from digits_of decimal kind_word pitch_text k_count indexes frame_line phrase_line lines_of listing_of
lists_example = refl

pub lists_example_from : ListsExampleFrom
unfolding bit field digits items_from walk_of phrase_of decoded frame_from digits_of decimal kind_word pitch_text k_count indexes frame_line phrase_line lines_of listing_of
lists_example_from = refl

pub lists_example_cut : ListsExampleCut
unfolding bit field digits items_from walk_of decoded short_of frame_from digits_of decimal cut_line walk_line listing_of
lists_example_cut = refl
