-- Rights, as document 01 gives Figure 2-7.
use Rattle.std.specs.Prelude.{ℕ, ◌/◌, ◌%◌, ◌≤◌, ◌≡◌}
use Rattle.asking.specs.declared.Right.{Right}
use Rattle.asking.specs.declared.Right.TheVariants.{Delete, Write, Read}

-- "Protect bits 0-2 are for all others, 3-5 for the same group"
abbrev pub others_field : ℕ → ℕ
others_field protect = protect % 8

abbrev pub group_field : ℕ → ℕ
group_field protect = (protect / 8) % 8

-- "each: 0 delete, write, read; 1 write, read; 2, 3 read; 4 to 7 none of these."
pub data InField : Right → ℕ → Type 0 where
  delete : InField Delete 0
  write : {field : ℕ} → field ≤ 1 → InField Write field
  read : {field : ℕ} → field ≤ 3 → InField Read field

-- "Bit 6 denies the owner writing and deleting; the owner always reads." "The owner has the file's UIC; the group has its high byte."
-- Exactly one class applies: the owner is no member of the group, and no member of the group is one of the others.
pub data May (caller uic protect : ℕ) : Right → Type 0 where
  owner_reads : caller ≡ uic → May caller uic protect Read
  owner_writes : caller ≡ uic → (protect / 64) % 2 ≡ 0 → May caller uic protect Write
  owner_deletes : caller ≡ uic → (protect / 64) % 2 ≡ 0 → May caller uic protect Delete
  group : {right : Right} → (caller ≡ uic → ⊥) → caller / 256 ≡ uic / 256 → InField right (group_field protect) → May caller uic protect right
  others : {right : Right} → (caller / 256 ≡ uic / 256 → ⊥) → InField right (others_field protect) → May caller uic protect right
