-- Rests on `Listing`: the text of an image that is too long, of one that is not consistent and of one that is surveyed, and a text at the start of a buffer.
use borrow.Author.Rules.{rules}
use mathlib.Core.Path.{◌≡◌}
use native.Mathlib.Omega.{arith}
use Rattle.std.specs.Prelude.{Some, None}
use Rattle.consistency.proofs.ConsistentTestIff.{opened_good}
use Rattle.printing.specs.Survey.{surveyed}
use Rattle.printing.proofs.Put.{put_then}
use Rattle.printing.proofs.Listing.{too_long, unsurveyed, survey_opened, few_entries, listed, put_listing}
use Rattle.printing.proofs.print_listing.Goals as goal

pub returns-then-img-gt-LONGEST_IMAGE : goal.returns-then-img-gt-LONGEST_IMAGE
returns-then-img-gt-LONGEST_IMAGE c = let all = put_listing _ (too_long _ c.if-img-gt-LONGEST_IMAGE.true) c.put_refusal.ensures (omega (arith, c.put_refusal.ensures.behind)) c.requires in
    record { value = all.0; out_after = all.1.0; upper_bound = all.1.1 }

pub returns-in_default : goal.returns-in_default
returns-in_default c =
    let nothing : surveyed c.args.img.now ≡ None = search rules in
    let put = c.put_refusal-in_default.ensures in
    let all = put_listing _ (unsurveyed _ nothing) put (omega (arith, put.behind)) c.requires in
    record { value = all.0; out_after = all.1.0; upper_bound = all.1.1 }

pub invariant_of-put_lines : goal.invariant_of-put_lines
invariant_of-put_lines c =
    let found : surveyed c.args.img.now ≡ Some (c.in-Some.g, c.in-Some.free) = search rules in
    record { sized = (opened_good _ _ (survey_opened _ found)).2 }

pub put_lines-requires : goal.put_lines-requires
put_lines-requires c =
    let found : surveyed c.args.img.now ≡ Some (c.in-Some.g, c.in-Some.free) = search rules in
    record { g_in_bounds = omega (arith, few_entries _ (survey_opened _ found), c.put_head-at.ensures.upper_bound, c.requires) }

pub returns : goal.returns
returns c =
    let found : surveyed c.args.img.now ≡ Some (c.in-Some.g, c.in-Some.free) = search rules in
    let most = few_entries _ (survey_opened _ found) in
    let put = put_then c.put_head-at.ensures.put c.put_lines.ensures.put in
    let all = put_listing _ (listed _ found c.if-img-gt-LONGEST_IMAGE.false) put
    (omega (arith, most, c.put_head-at.ensures.upper_bound, c.put_lines.ensures.upper_bound)) c.requires in
    record { value = all.0; out_after = all.1.0; upper_bound = all.1.1 }
