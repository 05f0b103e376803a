-- The test of a right says exactly what Figure 2-7 says; and what each step of it comes to.
use Prim.Native.Nat.{ℕ, ◌/◌, ◌%◌, ◌≤◌}
use mathlib.Core.Path.{◌≡◌, refl, sym, ap, subst, ◌∙◌}
use mathlib.Core.Logic.{◌↔◌}
use mathlib.Core.Bool.{true}
use native.Mathlib.Decide.{ℕ_discrete}
use native.Mathlib.Omega.{arith}
use lib.Dec.{eqb}
use borrow.Author.Tests.{eq-eqb, ne_eqb, eqb-true, leb-true, le-leb}
use Rattle.asking.specs.declared.Right.{Right}
use Rattle.asking.specs.declared.Right.TheVariants.{Delete, Write, Read}
use Rattle.asking.specs.RightsTest.{in_field, owners, may}
use Rattle.asking.specs.Rights.{others_field, group_field, InField, May, delete, write, read, owner_reads, owner_writes, owner_deletes, group, others}

field_to : (right : Right) (field : ℕ) → in_field right field ≡ true → InField right field
unfolding in_field
field_to Delete field t = subst (InField Delete) (sym (eqb-true field 0 t)) delete
field_to Write field t = write (leb-true field 1 t)
field_to Read field t = read (leb-true field 3 t)

field_from : (right : Right) (field : ℕ) → InField right field → in_field right field ≡ true
unfolding in_field
field_from r f delete = refl
field_from r f (write {field = q} h) = le-leb q 1 h
field_from r f (read {field = q} h) = le-leb q 3 h

-- the owner
pub owners_delete : (right : Right) (protect : ℕ) → right ≡ Delete → eqb ((protect / 64) % 2) 0 ≡ owners right protect
unfolding owners
owners_delete right protect is = rw is

pub owners_write : (right : Right) (protect : ℕ) → right ≡ Write → eqb ((protect / 64) % 2) 0 ≡ owners right protect
unfolding owners
owners_write right protect is = rw is

pub owners_read : (right : Right) (protect : ℕ) → right ≡ Read → true ≡ owners right protect
unfolding owners
owners_read right protect is = rw is

-- the three classes
module _ (right : Right) (caller uic protect : ℕ) where
  pub may_owner : caller ≡ uic → owners right protect ≡ may right caller uic protect
  unfolding may
  may_owner is = rw (eq-eqb caller uic is)

  module _ (apart : caller ≡ uic → ⊥) where
    pub may_group : caller / 256 ≡ uic / 256 → in_field right (group_field protect) ≡ may right caller uic protect
    unfolding may
    may_group same = rw (ne_eqb caller uic apart, eq-eqb (caller / 256) (uic / 256) same)

    pub may_others : (caller / 256 ≡ uic / 256 → ⊥) → in_field right (others_field protect) ≡ may right caller uic protect
    unfolding may
    may_others other = rw (ne_eqb caller uic apart, ne_eqb (caller / 256) (uic / 256) other)

owned : (caller uic protect : ℕ) (right : Right) → caller ≡ uic → owners right protect ≡ true → May caller uic protect right
unfolding owners
owned caller uic protect Delete is t = owner_deletes is (eqb-true _ 0 t)
owned caller uic protect Write is t = owner_writes is (eqb-true _ 0 t)
owned caller uic protect Read is t = owner_reads is

may_from : (caller uic protect : ℕ) (right : Right) → May caller uic protect right → may right caller uic protect ≡ true
may_from caller uic protect r (owner_reads is) = sym (may_owner Read caller uic protect is) ∙ sym (owners_read Read protect refl)
may_from caller uic protect r (owner_writes is clear) = sym (may_owner Write caller uic protect is) ∙ (sym (owners_write Write protect refl) ∙ eq-eqb _ 0 clear)
may_from caller uic protect r (owner_deletes is clear) = sym (may_owner Delete caller uic protect is) ∙ (sym (owners_delete Delete protect refl) ∙ eq-eqb _ 0 clear)
may_from caller uic protect r (group {right = k} apart same field) = sym (may_group k caller uic protect apart same) ∙ field_from k (group_field protect) field
may_from caller uic protect r (others {right = k} other field) =
    sym (may_others k caller uic protect (λ is. other (ap (λ (n : ℕ). n / 256) is)) other) ∙ field_from k (others_field protect) field

pub may_iff : (right : Right) (caller uic protect : ℕ) → may right caller uic protect ≡ true ↔ May caller uic protect right
may_iff right caller uic protect = (to (ℕ_discrete caller uic) (ℕ_discrete (caller / 256) (uic / 256)), may_from caller uic protect right)
  where
    to : Dec (caller ≡ uic) → Dec (caller / 256 ≡ uic / 256) → may right caller uic protect ≡ true → May caller uic protect right
    to (yes is) g t = owned caller uic protect right is (may_owner right caller uic protect is ∙ t)
    to (no apart) (yes same) t = group apart same (field_to right (group_field protect) (may_group right caller uic protect apart same ∙ t))
    to (no apart) (no other) t = others other (field_to right (others_field protect) (may_others right caller uic protect apart other ∙ t))

-- "0 delete, write, read; 1 write, read; 2, 3 read", and "the owner always reads": who has any right may read
field_reads : (right : Right) (field : ℕ) → InField right field → InField Read field
field_reads right field delete = let least : 0 ≤ 3 = omega arith in read least
field_reads right field (write small) = let few : field ≤ 3 = omega (arith, small) in read few
field_reads right field (read small) = read small

pub may_reads : (caller uic protect : ℕ) (right : Right) → May caller uic protect right → May caller uic protect Read
may_reads caller uic protect right (owner_reads is) = owner_reads is
may_reads caller uic protect right (owner_writes is clear) = owner_reads is
may_reads caller uic protect right (owner_deletes is clear) = owner_reads is
may_reads caller uic protect right (group {right = k} apart same field) = group apart same (field_reads k _ field)
may_reads caller uic protect right (others {right = k} other field) = others other (field_reads k _ field)
