-- Rests on `FormatRows`: the test decides the code; the system's bytes cleared, then headed, and its blocks marked on the map are the formatted image.
use mathlib.Core.Path.{sym, ◌∙◌}
use Rattle.answers.specs.Refusals.{code_of, code_in}
use Rattle.creation.proofs.FormatMeasures.{system_room, measures_sized, same_long}
use Rattle.creation.proofs.FormatRows.{test_formattable, refused_code, refused_image, done_code, done_image}
use Rattle.creation.proofs.format.format.Goals as goal

pub returns-then-not-is_formattable : goal.returns-then-not-is_formattable
unfolding code_of code_in
returns-then-not-is_formattable c = let fails = sym c.is_formattable.ensures ∙ c.if-not-is_formattable.true in
    record { value = refused_code _ _ _ _ _ fails; image_after = refused_image _ _ _ _ _ fails }

pub clear_system-requires : goal.clear_system-requires
clear_system-requires c = let f = test_formattable _ _ _ _ _ (sym c.is_formattable.ensures ∙ c.if-not-is_formattable.false) in
    (f.measured.contents_most, system_room f)

pub write_header-requires : goal.write_header-requires
write_header-requires c = same_long (test_formattable _ _ _ _ _ (sym c.is_formattable.ensures ∙ c.if-not-is_formattable.false))
    c.clear_system.auto.image

pub mark_system-requires : goal.mark_system-requires
mark_system-requires c = let f = test_formattable _ _ _ _ _ (sym c.is_formattable.ensures ∙ c.if-not-is_formattable.false) in
    record { contents_bound = f.measured.contents_most; sized = measures_sized f (c.write_header.auto.image ∙ c.clear_system.auto.image) }

pub returns : goal.returns
unfolding code_in
returns c = let holds = sym c.is_formattable.ensures ∙ c.if-not-is_formattable.false in
    record { value = done_code _ _ _ _ _ holds; image_after = done_image _ _ _ _ _ holds c.clear_system.ensures c.write_header.ensures c.mark_system.ensures }
