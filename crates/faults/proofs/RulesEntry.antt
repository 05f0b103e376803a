-- The rules of an entry taken from their order, and put in it.
use Prim.Native.Nat.{ℕ, ◌+◌, ◌-◌, ◌≤◌, ◌<◌}
use mathlib.Core.Path.{◌≡◌}
use mathlib.Core.List.{List, [], ◌∷◌, ◌++◌}
use mathlib.Core.Logic.{◌⊎◌, inl, inr}
use native.Mathlib.Omega.{arith}
use native.Mathlib.Decide.{dec_lt}
use borrow.Author.Tests.{eq-eqb, ne_eqb}
use Rattle.pack.specs.declared.Entry.{Entry}
use Rattle.pack.specs.Geometry.{geometry_of}
use Rattle.pack.specs.Entry.{entry_of}
use Rattle.faults.specs.Rules.{Rule, entry, name, extent, link, loop, end, Holds}
use Rattle.faults.specs.Report.{each, links, file_order, entry_order}
use Rattle.faults.specs.FirstFault.{AllHold, none, also}
use Rattle.faults.proofs.ReportedParts.{hold_append, hold_split, hold_each, each_hold}
use Rattle.faults.proofs.ReportedRuns.{hold_links, links_hold}

-- the rules of a file, by its kind
module _ (e : ℕ) where
  abbrev pub extent_order : List Rule
  extent_order = extent e 6 ∷ (extent e 7 ∷ (extent e 8 ∷ []))

  abbrev pub end_order : List Rule
  end_order = extent e 8 ∷ (end e ∷ [])

module _ (e : ℕ) (x : Entry) where
  abbrev pub chain_order : List Rule
  chain_order = extent e 6 ∷ (links e 0 (x.length - 1) ++ end_order e)

  pub order_contiguous : x.kind ≡ 1 → file_order e x ≡ extent_order e
  unfolding file_order
  order_contiguous is = simp (eq-eqb x.kind 1 is)

  pub order_linked : (x.kind ≡ 1 → ⊥) → file_order e x ≡ chain_order
  unfolding file_order
  order_linked other = simp (ne_eqb x.kind 1 other)

-- the words of an entry that are looked at before its file
abbrev pub FieldWord : ℕ → Type 0
FieldWord w = (w < 6) ⊎ ((9 ≤ w) × (w < 16))

module _ (img : List ℕ) (e : ℕ) where
  abbrev pub entry_here : Entry
  entry_here = entry_of img (geometry_of img) e

  -- what the rules of a linked file are, one by one
  pub record ChainRules : Type 0 where
    pub first : Holds img (extent e 6)
    pub links : (place : ℕ) → place + 1 < entry_here.length → Holds img (link e place) × Holds img (loop e place)
    pub last : Holds img (extent e 8)
    pub end : Holds img (end e)

  pub chain_rules : AllHold img (chain_order e entry_here) → ChainRules
  chain_rules (also first rest) = ends (hold_split (links e 0 (entry_here.length - 1)) (end_order e) rest)
    where
      ends : AllHold img (links e 0 (entry_here.length - 1)) × AllHold img (end_order e) → ChainRules
      ends (all, also last (also behind none)) =
          record { first = first; links = λ place within. links_hold e 0 (entry_here.length - 1) all place (omega arith) (omega arith); last = last; end = behind }

  pub rules_chain : ChainRules → AllHold img (chain_order e entry_here)
  rules_chain rules =
      also rules.first
      (hold_append (hold_links e 0 (entry_here.length - 1) (λ place low high. rules.links place (omega arith))) (also rules.last (also rules.end none)))

  -- and those of an entry
  pub record EntryRules : Type 0 where
    pub fields : (w : ℕ) → FieldWord w → Holds img (entry e w)
    pub apart : Holds img (name e)
    pub file : AllHold img (file_order e entry_here)

  abbrev pub field_rules : ℕ → ℕ → List Rule
  field_rules from k = each (λ w. entry e w) from k

  pub order_rules : AllHold img (entry_order img e) → EntryRules
  unfolding entry_order
  order_rules all = key (hold_split (field_rules 0 4) (name e ∷ (field_rules 4 2 ++ (field_rules 9 7 ++ file_order e entry_here))) all)
    where
      fields : AllHold img (field_rules 0 4) → AllHold img (field_rules 4 2) → AllHold img (field_rules 9 7) → (w : ℕ) → FieldWord w → Holds img (entry e w)
      fields low middle high w (inl below) =
          elim (dec_lt w 4) [
            | yes few ↦ each_hold (λ w. entry e w) 0 4 low w (omega arith) (omega arith)
            | no more ↦ each_hold (λ w. entry e w) 4 2 middle w (omega (arith, more)) (omega arith)
          ]
      fields low middle high w (inr (above, below)) = each_hold (λ w. entry e w) 9 7 high w above (omega arith)

      key : AllHold img (field_rules 0 4) × AllHold img (name e ∷ (field_rules 4 2 ++ (field_rules 9 7 ++ file_order e entry_here))) → EntryRules
      key (low, also apart rest) =
          let h = hold_split (field_rules 4 2) (field_rules 9 7 ++ file_order e entry_here) rest in
          let k = hold_split (field_rules 9 7) (file_order e entry_here) h.1 in
          record { fields = fields low h.0 k.0; apart = apart; file = k.1 }

  pub rules_order : EntryRules → AllHold img (entry_order img e)
  unfolding entry_order
  rules_order rules =
      hold_append (hold_each (λ w. entry e w) 0 4 (λ w low high. rules.fields w (inl (omega arith))))
      (also rules.apart
      (hold_append (hold_each (λ w. entry e w) 4 2 (λ w low high. rules.fields w (inl (omega arith))))
      (hold_append (hold_each (λ w. entry e w) 9 7 (λ w low high. rules.fields w (inr (low, omega arith)))) rules.file)))
