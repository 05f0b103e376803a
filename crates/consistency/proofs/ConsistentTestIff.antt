-- The check says exactly whether an image is consistent, and its map then says how often each block is held.
use Prim.Native.Nat.{ℕ, ◌+◌, ◌≤◌, ◌<◌}
use mathlib.Core.Path.{◌≡◌, refl, sym, subst, ◌∙◌}
use mathlib.Core.Bool.{Bool, true, false, cond, ◌&&◌}
use mathlib.Core.List.{List}
use mathlib.Core.Logic.{inl, inr, ◌↔◌}
use native.Mathlib.Omega.{arith}
use native.Mathlib.Decide.{dec_lt}
use lib.ListN.{length, get_or, length-replicate, get_or-replicate, get_or-eq_default}
use Rattle.pack.specs.declared.Geometry.{Geometry}
use Rattle.pack.specs.GeometrySized.{Sized}
use Rattle.pack.specs.Geometry.{geometry_of, slots}
use Rattle.pack.specs.HeaderTest.{header_test}
use Rattle.pack.specs.Entry.{entry_word, entry_of, Empty, RightEntry}
use Rattle.pack.specs.Key.{key_in, SameKey}
use Rattle.pack.specs.Consistent.{held_in, held, MapAgrees, Consistent}
use Rattle.pack.specs.MapSays.{marking}
use Rattle.answers.proofs.RefusalsTests.{and_left, and_right, and_both}
use Rattle.pack.proofs.HeaderTestWhole.{header_iff}
use Rattle.pack.proofs.HeaderRules.{header_sized}
use Rattle.radix.proofs.Names.{name_not_zero}
use Rattle.std.specs.Prelude.{Some, None}
use Rattle.consistency.specs.Walk.{system_set}
use Rattle.consistency.specs.ConsistentTest.{scan_test, mark_all, empty_map, system_map, entries_test, files_test, consistent, opened_of}
use Rattle.consistency.specs.MapTest.{map_test}
use Rattle.consistency.proofs.MapTest.{map_test_iff}
use Rattle.consistency.proofs.DifferTest.{differ_iff}
use Rattle.consistency.proofs.WalkSystem.{system_length, system_own, system_others}
use Rattle.pack.proofs.ConsistentHeld.{system_free, map_iff}
use Rattle.consistency.proofs.ConsistentTestScan.{scan_fine, fine_scan, scan_counts, marks_length}

pub empty_long : (long : ℕ) → length (empty_map long) ≡ long
empty_long long = length-replicate {A = ℕ} long 0

pub empty_zero : (long b : ℕ) → get_or (empty_map long) b 0 ≡ 0
empty_zero long b =
    elim (dec_lt b long) [
      | yes inside ↦ get_or-replicate long b 0 0 inside
      | no outside ↦ let beyond : length (empty_map long) ≤ b = omega (arith, outside, empty_long long) in get_or-eq_default (empty_map long) 0 beyond
    ]

-- the rules of all entries, at given measures
module _ (img : List ℕ) (g : Geometry) where
  pub record Entries : Type 0 where
    pub entries : (e : ℕ) → e < slots g → RightEntry img g e
    pub differ : (e f : ℕ) → e < f → f < slots g → (Empty img g e → ⊥) → SameKey (key_in (entry_of img g e)) (key_in (entry_of img g f)) → ⊥
    pub once : (b : ℕ) → held_in img g b ≤ 1

  -- a right entry whose first word is 0 is empty
  named : (e : ℕ) → RightEntry img g e → (Empty img g e → ⊥) → entry_word img g e 0 ≡ 0 → ⊥
  unfolding entry_of
  named e (inl empty) used is = used empty
  named e (inr u) used is = name_not_zero _ _ u.name is

  -- on a map with a place for each block
  module _ (sized : Sized img g) (places : ℕ) (enough : g.blocks ≤ places) where
    pub system_long : length (system_map places g) ≡ places
    system_long = system_length (empty_map places) g.bodies.0 1 ∙ empty_long places

    long : g.blocks ≤ length (system_map places g)
    long = omega (arith, system_long, enough)

    -- the system's map has 1 at each of the system's blocks and 0 elsewhere
    pub system_one : (b : ℕ) → b < g.bodies.0 → get_or (system_map places g) b 0 ≡ 1
    system_one b own = system_own (empty_map places) 1 b g.bodies.0 (omega (arith, empty_long places, enough, sized.bodies)) own

    pub system_zero : (b : ℕ) → g.bodies.0 ≤ b → get_or (system_map places g) b 0 ≡ 0
    system_zero b from = system_others (empty_map places) 1 b g.bodies.0 from ∙ empty_zero places b

    flags : (b : ℕ) → get_or (system_map places g) b 0 ≤ 1
    flags b = elim (dec_lt b g.bodies.0) [ yes own ↦ omega (arith, system_one b own) | no other ↦ omega (arith, system_zero b (omega (arith, other))) ]

    once_with : ((e : ℕ) → e < slots g → RightEntry img g e) → ((b : ℕ) → held_in img g b ≤ 1) → (b : ℕ) → get_or (system_map places g) b 0 + held_in img g b ≤ 1
    once_with right once b = elim (dec_lt b g.bodies.0) [
      | yes own ↦ omega (arith, system_one b own, system_free img g right b own)
      | no other ↦ omega (arith, once b, system_zero b (omega (arith, other)))
    ]

    entries_means : entries_test places img g ≡ true → Entries
    unfolding entries_test
    entries_means test =
        let fine = scan_fine img g (system_map places g) 0 (slots g) long flags (and_left (scan_test img g (system_map places g) 0 (slots g)) _ test) in
        let apart = (differ_iff img g (slots g)).0 (and_right (scan_test img g (system_map places g) 0 (slots g)) _ test) in
        record {
          entries = λ e below. fine.right e (omega arith) (omega arith);
          differ = λ e f less below used same. apart e f less (omega arith) (named e (fine.right e (omega arith) (omega arith)) used) same;
          once = λ b. omega (arith, fine.once b);
        }

    entries_tested : Entries → entries_test places img g ≡ true
    unfolding entries_test
    entries_tested h =
        and_both (fine_scan img g (system_map places g) 0 (slots g) long (record { right = λ e low high. h.entries e (omega arith); once = once_with h.entries h.once }))
        ((differ_iff img g (slots g)).1 (λ e f less high used same. h.differ e f less (omega arith) (λ empty. used (empty.zero 0 (omega arith))) same))

    pub entries_iff : entries_test places img g ≡ true ↔ Entries
    entries_iff = (entries_means, entries_tested)

    -- the map that the scan leaves, once the system's blocks are given back
    pub entries_held : entries_test places img g ≡ true → (b : ℕ) → get_or (system_set (mark_all img g (system_map places g) 0 (slots g)) g.bodies.0 0) b 0 ≡ held_in img g b
    unfolding entries_test
    entries_held test b =
        let scanned = and_left (scan_test img g (system_map places g) 0 (slots g)) _ test in
        let counts = scan_counts img g (system_map places g) 0 (slots g) long scanned b in
        let marks = mark_all img g (system_map places g) 0 (slots g) in
        elim (dec_lt b g.bodies.0) [
          | yes own ↦
              system_own marks 0 b g.bodies.0 (omega (arith, marks_length img g (system_map places g) 0 (slots g), system_long, enough, sized.bodies)) own
              ∙ sym (system_free img g (entries_means test).entries b own)
          | no other ↦ omega (arith, system_others marks 0 b g.bodies.0 (omega (arith, other)), counts, system_zero b (omega (arith, other)))
        ]

-- how many places the map has does not matter, if they are enough
same_tests : {A : Type 0} (a b : Bool) → a ≡ true ↔ A → b ≡ true ↔ A → a ≡ b
same_tests true b one two = sym (two.1 (one.0 refl))
same_tests false true one two = one.1 (two.0 refl)
same_tests false false one two = refl

pub entries_any : (img : List ℕ) (g : Geometry) → Sized img g → (places : ℕ) → g.blocks ≤ places → entries_test places img g ≡ entries_test g.blocks img g
entries_any img g sized places enough = same_tests _ _ (entries_iff img g sized places enough) (entries_iff img g sized g.blocks (omega arith))

-- behind the header: the entries, and the map
pub files_iff : (img : List ℕ) (g : Geometry) → Sized img g → files_test img g ≡ true ↔ (Entries img g × MapAgrees img g)
unfolding files_test
files_iff img g sized = (means, tested)
  where
    entries : entries_test g.blocks img g ≡ true ↔ Entries img g
    entries = entries_iff img g sized g.blocks (omega arith)

    means : (entries_test g.blocks img g && map_test img g (marking img g)) ≡ true → Entries img g × MapAgrees img g
    means test =
        let h = entries.0 (and_left (entries_test g.blocks img g) _ test) in
        (h, (map_iff img g h.entries h.once).1 ((map_test_iff img g (marking img g)).0 (and_right (entries_test g.blocks img g) _ test)))

    tested : Entries img g × MapAgrees img g → (entries_test g.blocks img g && map_test img g (marking img g)) ≡ true
    tested (h, agrees) = and_both (entries.1 h) ((map_test_iff img g (marking img g)).1 ((map_iff img g h.entries h.once).0 agrees))

-- the check says exactly whether the image is consistent
pub consistent_iff : (img : List ℕ) → consistent img ≡ true ↔ Consistent img
unfolding consistent held
consistent_iff img = (means, tested)
  where
    means : (header_test img && files_test img (geometry_of img)) ≡ true → Consistent img
    means test =
        let header = (header_iff img).0 (and_left (header_test img) _ test) in
        let h = (files_iff img (geometry_of img) (header_sized img header)).0 (and_right (header_test img) _ test) in
        record { header = header; entries = h.0.entries; differ = h.0.differ; once = h.0.once; map = h.1 }

    tested : Consistent img → (header_test img && files_test img (geometry_of img)) ≡ true
    tested h =
        and_both ((header_iff img).1 h.header)
        ((files_iff img (geometry_of img) (header_sized img h.header)).1 (record { entries = h.entries; differ = h.differ; once = h.once }, h.map))

-- what the answer of a pack opened says
by_good : (test : Bool) (g h : Geometry) → cond test (Some g) None ≡ Some h → (test ≡ true) × (g ≡ h)
by_good true g h is = (refl, cc)
by_good false g h is = (cc, cc)

pub opened_good : (img : List ℕ) (g : Geometry) → opened_of img ≡ Some g → Consistent img × (geometry_of img ≡ g) × Sized img g
unfolding opened_of
opened_good img g is =
    let h = by_good (consistent img) _ _ is in
    let c = (consistent_iff img).0 h.0 in
    (c, h.1, subst (Sized img) h.1 (header_sized img c.header))

by_bad : (test : Bool) (g : Geometry) → cond test (Some g) None ≡ None → test ≡ false
by_bad true g is = cc
by_bad false g is = refl

pub opened_bad : (img : List ℕ) → opened_of img ≡ None → consistent img ≡ false
unfolding opened_of
opened_bad img is = by_bad (consistent img) _ is
