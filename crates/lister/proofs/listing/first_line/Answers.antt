use Rattle.std.proofs.Common.{rules}
use Rattle.lister.proofs.ListingLaws.{Answers, listing_refused, listing_phrase, first_fits, line_alone}
use Rattle.lister.proofs.listing.first_line.Goals as goal

pub overflow_mul-result : goal.overflow_mul-result
overflow_mul-result c =
    let w : Answers c.args.asked c.args.image.now _ = record { long = c.in-Ok.ensures.long; taken = c.in-Ok.ensures.taken } in
    search (rules, first_fits _ _ _ w)

pub returns-in-Ok : goal.returns-in-Ok
returns-in-Ok c =
    listing_phrase _ _ c.in-Ok.extent (record { long = c.in-Ok.ensures.long; taken = c.in-Ok.ensures.taken })
    c.count-count.ensures c.phrase-part.ensures c.phrase_line.ensures

pub returns-in-Err : goal.returns-in-Err
returns-in-Err c =
    line_alone _ _ c.walk_line.ensures
    (listing_refused _ _ c.in-Err.refusal (record { long = c.in-Err.ensures.long; taken = c.in-Err.ensures.taken }))
