-- Rests on `form_of_none` and `form_of_one`: bytes that an image lacks count as 0 in its word 0.
use Rattle.bodies.proofs.BufferSizes.{form_of_none, form_of_one}
use Rattle.bodies.proofs.form_of.Goals as goal

pub returns-then-img-lt1 : goal.returns-then-img-lt1
returns-then-img-lt1 c = form_of_none _ c.if-img-lt1.true

pub returns-then-img-lt2 : goal.returns-then-img-lt2
returns-then-img-lt2 c = form_of_one _ c.if-img-lt2.true
