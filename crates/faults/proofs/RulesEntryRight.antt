-- The rules of an entry hold exactly if the entry is right, its file reaches no block twice, and no entry before it has its key.
use Prim.Native.Nat.{ℕ, ◌<◌}
use mathlib.Core.Path.{◌≡◌, refl, ap}
use mathlib.Core.List.{List}
use mathlib.Core.Logic.{◌⊎◌, inl, inr, ◌↔◌}
use native.Mathlib.Omega.{arith}
use native.Mathlib.Decide.{ℕ_discrete}
use Rattle.pack.specs.declared.Geometry.{Geometry}
use Rattle.pack.specs.Geometry.{geometry_of}
use Rattle.pack.specs.File.{count}
use Rattle.pack.specs.Entry.{entry_of, Empty, Contiguous, Linked, Used, RightEntry}
use Rattle.pack.specs.Key.{key_in, SameKey}
use Rattle.pack.proofs.FileCount.{count_nil}
use Rattle.pack.proofs.EntryRead.{empty_blocks}
use Rattle.radix.proofs.Names.{name_not_zero}
use Rattle.faults.specs.Rules.{entry, extent, Holds, RightField}
use Rattle.faults.specs.Report.{file_order, entry_order}
use Rattle.faults.specs.FirstFault.{AllHold, none, also}
use Rattle.faults.proofs.RulesFile.{Bodies, Once, LinksBodies, LinksOnce, extent_once, extent_bodies, bodies_extent}
use Rattle.faults.proofs.RulesFile.{linked_bodies, linked_once, linked_last, linked_end, bodies_links, once_links, linked_chain}
use Rattle.faults.proofs.RulesEntry.{order_contiguous, order_linked, extent_order, FieldWord, entry_here, ChainRules, chain_rules, rules_chain, EntryRules, order_rules, rules_order}

-- what is said of an entry in use, where it is in use
pub sure : {A B : Type 0} → (A → ⊥) → A ⊎ B → B
sure never (inl a) = absurd (never a)
sure never (inr b) = b

-- the first word of an entry in use is not 0
pub right_named : (img : List ℕ) (g : Geometry) (e : ℕ) → RightEntry img g e → (Empty img g e → ⊥) → (entry_of img g e).name1 ≡ 0 → ⊥
right_named img g e (inl empty) used is = used empty
right_named img g e (inr u) used is = name_not_zero _ _ u.name is

pub empty_unnamed : (img : List ℕ) (g : Geometry) (e : ℕ) → Empty img g e → (entry_of img g e).name1 ≡ 0
unfolding entry_of
empty_unnamed img g e empty = empty.zero 0 (omega arith)

module _ (img : List ℕ) (e : ℕ) where
  pub record FineEntry : Type 0 where
    pub right : RightEntry img (geometry_of img) e
    pub once : Once img (geometry_of img) (entry_here img e)
    pub apart : (Empty img (geometry_of img) e → ⊥) → (f : ℕ) → f < e → (Empty img (geometry_of img) f → ⊥)
        → SameKey (key_in (entry_of img (geometry_of img) f)) (key_in (entry_of img (geometry_of img) e)) → ⊥

  -- a file that its rules allow: of one kind or the other
  record FineFile : Type 0 where
    kind : Contiguous (entry_here img e) ⊎ Linked img (geometry_of img) (entry_here img e)
    bodies : Bodies img (geometry_of img) (entry_here img e)
    once : Once img (geometry_of img) (entry_here img e)

  module _ (used : Empty img (geometry_of img) e → ⊥) where
    contiguous_file : (entry_here img e).kind ≡ 1 → ((entry_here img e).writer ≡ 0) ⊎ ((entry_here img e).writer ≡ 1) → AllHold img (extent_order e) → FineFile
    contiguous_file is writer (also six (also seven (also eight none))) =
        record {
          kind = inl (record { kind = is; length = (((sure used seven).0 is).length refl).0; last = ((sure used eight).0 is).last refl; writer = writer });
          bodies = extent_bodies img (geometry_of img) (entry_here img e) is ((sure used six).0 is) ((sure used seven).0 is);
          once = extent_once img (geometry_of img) (entry_here img e) is;
        }

    linked_file : (entry_here img e).kind ≡ 2 → ((entry_here img e).writer ≡ 0) ⊎ (((entry_here img e).writer ≡ 2) ⊎ ((entry_here img e).writer ≡ 3)) → ChainRules img e → FineFile
    linked_file is writer rules =
        let six = (sure used rules.first).1 is in
        let eight = (sure used rules.last).1 is in
        let bodies : LinksBodies img (entry_here img e) = λ place within. sure used (rules.links place within).0 within in
        let once : LinksOnce img (entry_here img e) = λ place within. sure used (rules.links place within).1 within in
        record {
          kind = inr (record {
            kind = is;
            end = linked_end img (entry_here img e) is six eight (sure used rules.end);
            last = linked_last img (entry_here img e) is six eight;
            writer = writer;
          });
          bodies = linked_bodies img (entry_here img e) is six bodies;
          once = linked_once img (entry_here img e) is once;
        }

    fine_file : EntryRules img e → FineFile
    fine_file rules = by ((sure used (rules.fields 9 (inr (omega arith, omega arith)))).writer refl)
      where
        by : (((entry_here img e).kind ≡ 1) × (((entry_here img e).writer ≡ 0) ⊎ ((entry_here img e).writer ≡ 1)))
            ⊎ (((entry_here img e).kind ≡ 2) × (((entry_here img e).writer ≡ 0) ⊎ (((entry_here img e).writer ≡ 2) ⊎ ((entry_here img e).writer ≡ 3)))) → FineFile
        by (inl (is, writer)) = contiguous_file is writer (rw (order_contiguous e (entry_here img e) is) at rules.file)
        by (inr (is, writer)) =
            let other : (entry_here img e).kind ≡ 1 → ⊥ = λ one. omega (arith, one, is) in
            linked_file is writer (chain_rules img e (rw (order_linked e (entry_here img e) other) at rules.file))

    used_fine : EntryRules img e → FineEntry
    used_fine rules =
        let file = fine_file rules in
        record {
          right = inr (record {
            name = (sure used (rules.fields 1 (inl (omega arith)))).name refl;
            extension = (sure used (rules.fields 2 (inl (omega arith)))).extension refl;
            uic = (sure used (rules.fields 3 (inl (omega arith)))).uic refl;
            protect = (sure used (rules.fields 4 (inl (omega arith)))).protect refl;
            kind = file.kind;
            rest = λ w low high. (sure used (rules.fields w (inr (omega arith, high)))).rest low;
            bodies = file.bodies;
            opens = (sure used (rules.fields 10 (inr (omega arith, omega arith)))).opens refl;
          });
          once = file.once;
          apart = λ also. sure used rules.apart;
        }

  empty_once : Empty img (geometry_of img) e → Once img (geometry_of img) (entry_here img e)
  empty_once empty b = omega (arith, count_nil b, ap (count b) (empty_blocks img (geometry_of img) e empty))

  rules_fine : EntryRules img e → FineEntry
  rules_fine rules = by (rules.fields 0 (inl (omega arith)))
    where
      by : Holds img (entry e 0) → FineEntry
      by (inl empty) = record { right = inl empty; once = empty_once empty; apart = λ used. absurd (used empty) }
      by (inr f) = let begins = f.begins refl in used_fine (λ empty. name_not_zero _ _ begins.1 (empty_unnamed img (geometry_of img) e empty)) rules

  pub entry_fine : AllHold img (entry_order img e) → FineEntry
  entry_fine all = rules_fine (order_rules img e all)

  -- the other way: of an empty entry each rule holds
  pub empty_rules : Empty img (geometry_of img) e → EntryRules img e
  empty_rules empty = record { fields = λ w of. inl empty; apart = inl empty; file = file (ℕ_discrete (entry_here img e).kind 1) }
    where
      file : Dec ((entry_here img e).kind ≡ 1) → AllHold img (file_order e (entry_here img e))
      file (yes is) = rw (order_contiguous e (entry_here img e) is) (also (inl empty) (also (inl empty) (also (inl empty) none)))
      file (no other) =
          rw (order_linked e (entry_here img e) other)
          (rules_chain img e (record { first = inl empty; links = λ place within. (inl empty, inl empty); last = inl empty; end = inl empty }))

  -- and of one in use
  module _ (u : Used img (geometry_of img) e (entry_here img e)) where
    written : (kind : Contiguous (entry_here img e) ⊎ Linked img (geometry_of img) (entry_here img e))
        → (((entry_here img e).kind ≡ 1) × (((entry_here img e).writer ≡ 0) ⊎ ((entry_here img e).writer ≡ 1)))
        ⊎ (((entry_here img e).kind ≡ 2) × (((entry_here img e).writer ≡ 0) ⊎ (((entry_here img e).writer ≡ 2) ⊎ ((entry_here img e).writer ≡ 3))))
    written (inl c) = inl (c.kind, c.writer)
    written (inr l) = inr (l.kind, l.writer)

    kinds : (kind : Contiguous (entry_here img e) ⊎ Linked img (geometry_of img) (entry_here img e)) → ((entry_here img e).kind ≡ 1) ⊎ ((entry_here img e).kind ≡ 2)
    kinds (inl c) = inl c.kind
    kinds (inr l) = inr l.kind

    pub used_field : (w : ℕ) → w < 16 → RightField img e w (entry_here img e)
    used_field w inside =
        record {
          begins = λ at. (_, u.name);
          name = λ at. u.name;
          extension = λ at. u.extension;
          uic = λ at. u.uic;
          protect = λ at. u.protect;
          kind = λ at. kinds u.kind;
          writer = λ at. written u.kind;
          opens = λ at. u.opens;
          rest = λ low. u.rest w low inside;
        }

    used_file : Once img (geometry_of img) (entry_here img e) → Contiguous (entry_here img e) ⊎ Linked img (geometry_of img) (entry_here img e)
        → AllHold img (file_order e (entry_here img e))
    used_file once (inl c) =
        let rule : (w : ℕ) → Holds img (extent e w) =
        λ w. inr (λ is. bodies_extent img (geometry_of img) (entry_here img e) is c u.bodies w, λ two. absurd (omega (arith, two, c.kind))) in
        rw (order_contiguous e (entry_here img e) c.kind) (also (rule 6) (also (rule 7) (also (rule 8) none)))
    used_file once (inr l) =
        let other : (entry_here img e).kind ≡ 1 → ⊥ = λ one. omega (arith, one, l.kind) in
        let rule : (w : ℕ) → Holds img (extent e w) =
        λ w. inr (λ one. absurd (other one), λ is. linked_chain img (entry_here img e) is l u.bodies w) in
        rw (order_linked e (entry_here img e) other)
        (rules_chain img e (record {
          first = rule 6;
          links = λ place within. (
            inr (bodies_links img (entry_here img e) l.kind l u.bodies place),
            inr (once_links img (entry_here img e) l.kind l u.bodies once place),
          );
          last = rule 8;
          end = inr (λ some. l.end);
        }))

  fine_rules : FineEntry → EntryRules img e
  fine_rules fine = by fine.right
    where
      below : {w : ℕ} → FieldWord w → w < 16
      below (inl low) = omega arith
      below (inr (low, high)) = high

      apart : Used img (geometry_of img) e (entry_here img e) → Empty img (geometry_of img) e → ⊥
      apart u empty = name_not_zero _ _ u.name (empty_unnamed img (geometry_of img) e empty)

      by : RightEntry img (geometry_of img) e → EntryRules img e
      by (inl empty) = empty_rules empty
      by (inr u) =
          record {
            fields = λ w of. inr (used_field u w (below of));
            apart = inr (fine.apart (apart u));
            file = used_file u fine.once u.kind;
          }

  pub fine_entry : FineEntry → AllHold img (entry_order img e)
  fine_entry fine = rules_order img e (fine_rules fine)

  pub entry_iff : AllHold img (entry_order img e) ↔ FineEntry
  entry_iff = (entry_fine, fine_entry)
