-- What spares a file at Finish.
use Rattle.std.specs.Prelude.{ℕ, ◌/◌, ◌%◌, ◌<◌, ◌≡◌}
use Rattle.pack.specs.declared.Entry.{Entry}
use Rattle.asking.specs.Opens.{opens}

-- It is another's, whatever that one allows; it is kept ("Bit 7 keeps the file at Finish."); it is open; or its owner may not delete it ("Bit 6 denies the owner
-- writing and deleting"). Of the files in use the scratch files are those that none of these spares (`spared_iff`, proofs/Spared.antt).
pub data Spared (caller : ℕ) (x : Entry) : Type 0 where
  another : (x.uic ≡ caller → ⊥) → Spared caller x
  kept : (x.protect / 128) % 2 ≡ 1 → Spared caller x
  opened : 0 < opens x → Spared caller x
  denied : (x.protect / 64) % 2 ≡ 1 → Spared caller x
