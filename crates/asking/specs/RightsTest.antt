-- Means: rights as a test; `may_iff` (proofs/Rights.antt) ties it to `May`.
use Rattle.std.specs.Prelude.{ℕ, ◌/◌, ◌%◌, Bool, true, cond, eqb, leb}
use Rattle.asking.specs.declared.Right.{Right}
use Rattle.asking.specs.declared.Right.TheVariants.{Delete, Write, Read}
use Rattle.asking.specs.Rights.{others_field, group_field}

unfoldable pub in_field : Right → ℕ → Bool
in_field Delete field = eqb field 0
in_field Write field = leb field 1
in_field Read field = leb field 3

unfoldable pub owners : Right → ℕ → Bool
owners Delete protect = eqb ((protect / 64) % 2) 0
owners Write protect = eqb ((protect / 64) % 2) 0
owners Read protect = true

unfoldable pub may : Right → ℕ → ℕ → ℕ → Bool
may right caller uic protect =
    cond (eqb caller uic) (owners right protect)
    (cond (eqb (caller / 256) (uic / 256)) (in_field right (group_field protect)) (in_field right (others_field protect)))
