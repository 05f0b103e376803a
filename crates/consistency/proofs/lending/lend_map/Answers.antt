-- Rests on `MappedLent`: a map of zeros, large enough for an image of that length, can be lent.
use mathlib.Core.Path.{refl}
use Rattle.consistency.proofs.MappedLent.{lent_few, lent_many, lent_most}
use Rattle.consistency.proofs.lending.lend_map.Goals as goal

pub run-requires : goal.run-requires
run-requires g c = c.requires _ (lent_few c.if-img-le-FEW_BYTES.true refl)

pub returns-then-img-le-FEW_BYTES : goal.returns-then-img-le-FEW_BYTES
returns-then-img-le-FEW_BYTES g c = (_, _, lent_few c.if-img-le-FEW_BYTES.true refl, c.run.ensures)

pub run-requires-then-img-le-MANY_BYTES : goal.run-requires-then-img-le-MANY_BYTES
run-requires-then-img-le-MANY_BYTES g c = c.requires _ (lent_many c.if-img-le-MANY_BYTES.true refl)

pub returns-then-img-le-MANY_BYTES : goal.returns-then-img-le-MANY_BYTES
returns-then-img-le-MANY_BYTES g c = (_, _, lent_many c.if-img-le-MANY_BYTES.true refl, c.run-then-img-le-MANY_BYTES.ensures)

pub run-requires-2 : goal.run-requires-2
run-requires-2 g c = c.requires _ (lent_most refl)

pub returns : goal.returns
returns g c = (_, _, lent_most refl, c.run-2.ensures)
