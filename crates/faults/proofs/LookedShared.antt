-- The look at the blocks that two files reach, step by step: each file's blocks counted up to 2, the first that is counted twice, and its second holder.
use Prim.Native.Nat.{ℕ, suc, ◌+◌, ◌-◌, ◌≤◌, ◌<◌}
use mathlib.Core.Path.{◌≡◌, refl, sym, ap, subst, ◌∙◌}
use mathlib.Core.Bool.{Bool, true, false, ◌&&◌, ◌||◌}
use mathlib.Core.List.{List, [], ◌∷◌}
use mathlib.Core.Logic.{◌↔◌}
use native.Mathlib.Omega.{arith}
use native.Mathlib.Decide.{ℕ_discrete, dec_lt}
use lib.ListN.{length, get_or, set, length-set}
use lib.Seq.{get_or-set_same, get_or-set_other}
use Rattle.std.specs.Prelude.{Some}
use Rattle.answers.proofs.RefusalsTests.{down, true_not_false}
use Rattle.pack.specs.declared.Entry.{Entry}
use Rattle.pack.specs.declared.Geometry.{Geometry}
use Rattle.pack.specs.Geometry.{geometry_of, slots}
use Rattle.pack.specs.File.{next_of, chain, blocks_of, count}
use Rattle.pack.specs.Entry.{entry_of, blocks_at}
use Rattle.pack.specs.Consistent.{total, held}
use Rattle.pack.proofs.FileCount.{count_nil, count_same, count_other, count_split}
use Rattle.consistency.specs.ConsistentTest.{empty_map}
use Rattle.consistency.proofs.ConsistentTestIff.{empty_zero}
use Rattle.pack.proofs.ConsistentHeld.{right_bodies}
use Rattle.faults.specs.Rules.{shared, Body}
use Rattle.faults.specs.Second.{second_from, second}
use Rattle.faults.specs.Report.{each, nothing_wrong, Reported}
use Rattle.faults.specs.Looking.{FirstWrong, Sought, AllRight}
use Rattle.faults.specs.Counting.{Capped, Counted, CountsFile, files_from, none}
use Rattle.faults.proofs.ReportedParts.{hold_each, all_reported, reported_each}
use Rattle.faults.proofs.RulesEntryRight.{entry_fine}
use Rattle.faults.proofs.SecondSought.{second_here, second_first, second_past}

-- the blocks of a file from b on, as many as are left: each is a body, and what is counted with them
pub record Counting (img : List ℕ) (g : Geometry) (kind : ℕ) (before : List ℕ) (whole first : ℕ) (counts : List ℕ) (left b : ℕ) : Type 0 where
  pub long : length counts ≡ length before
  pub bodies : (c : ℕ) → 0 < count c (chain (next_of img g kind) left b) → Body g c
  pub counted : (rest goal : ℕ → ℕ) → Counted before (λ c. count c (chain (next_of img g kind) whole first) + rest c) goal
      → Counted counts (λ c. count c (chain (next_of img g kind) left b) + rest c) goal

pub counting_start : (img : List ℕ) (g : Geometry) (x : Entry) (counts : List ℕ) → ((b : ℕ) → 0 < count b (blocks_of img g x) → Body g b)
    → Counting img g x.kind counts x.length x.first.0 counts (x.length - 0) x.first.0
unfolding blocks_of
counting_start img g x counts bodies =
    let all : x.length ≡ x.length - 0 = omega arith in
    subst (λ (n : ℕ). Counting img g x.kind counts x.length x.first.0 counts n x.first.0) all
    (record { long = refl; bodies = bodies; counted = λ rest goal counted. counted })

module _ {img : List ℕ} {g : Geometry} {kind : ℕ} {before : List ℕ} {whole first : ℕ} {counts : List ℕ} {left b : ℕ}
    (counting : Counting img g kind before whole first counts left b) where
  abbrev behind : List ℕ
  behind = chain (next_of img g kind) (left - 1) (next_of img g kind b)

  more : 0 < left → (c : ℕ) → count c (chain (next_of img g kind) left b) ≡ count c (b ∷ behind)
  unfolding chain
  more some c = ap (λ (k : ℕ). count c (chain (next_of img g kind) k b)) (down left some)

  pub counting_block : 0 < left → b < g.blocks
  counting_block some = (counting.bodies b (omega (arith, more some b, count_same b b behind refl))).1

  module _ (some : 0 < left) (room : b < length counts) {value : ℕ} (told : (number : ℕ) → Capped (get_or counts b 0) number → Capped value (number + 1))
      {next : ℕ} (is : next ≡ next_of img g kind b) where
    counting_less : Counting img g kind before whole first (set counts b value) (left - 1) next
    counting_less =
        record {
          long = length-set counts b value ∙ counting.long;
          bodies = λ c there. counting.bodies c (omega (arith, more some c, count_split c b behind, there, same c));
          counted = λ rest goal from. step rest goal (counting.counted rest goal from);
        }
      where
        same : (c : ℕ) → count c (chain (next_of img g kind) (left - 1) next) ≡ count c behind
        same c = ap (λ (z : ℕ). count c (chain (next_of img g kind) (left - 1) z)) is

        step : (rest goal : ℕ → ℕ) → Counted counts (λ c. count c (chain (next_of img g kind) left b) + rest c) goal
            → Counted (set counts b value) (λ c. count c (chain (next_of img g kind) (left - 1) next) + rest c) goal
        step rest goal c =
            record {
              so_far = λ z. c.so_far z + count z (b ∷ []);
              told = λ z. elim (ℕ_discrete z b) [
                | yes here ↦ at z here
                | no other ↦ beside z other
              ];
              whole = λ z. omega (arith, c.whole z, more some z, count_split z b behind, same z);
            }
          where
            at : (z : ℕ) → z ≡ b → Capped (get_or (set counts b value) z 0) (c.so_far z + count z (b ∷ []))
            at z here =
                let value-is : value ≡ get_or (set counts b value) z 0 = sym (ap (λ (n : ℕ). get_or (set counts b value) n 0) here ∙ get_or-set_same counts b value 0 room) in
                let number : c.so_far b + 1 ≡ c.so_far z + count z (b ∷ []) = omega (arith, ap c.so_far here, count_same z b [] here, count_nil z) in
                subst (λ (n : ℕ). Capped n (c.so_far z + count z (b ∷ []))) value-is (subst (Capped value) number (told (c.so_far b) (c.told b)))

            beside : (z : ℕ) → (z ≡ b → ⊥) → Capped (get_or (set counts b value) z 0) (c.so_far z + count z (b ∷ []))
            beside z other =
                let value-is : get_or counts z 0 ≡ get_or (set counts b value) z 0 = sym (get_or-set_other counts b z value 0 other) in
                let number : c.so_far z ≡ c.so_far z + count z (b ∷ []) = omega (arith, count_other z b [] other, count_nil z) in
                subst (λ (n : ℕ). Capped n (c.so_far z + count z (b ∷ []))) value-is (subst (Capped (get_or counts z 0)) number (c.told z))

    pub counting_next : {fewer : ℕ} → left ≡ fewer + 1 → Counting img g kind before whole first (set counts b value) fewer next
    counting_next {fewer} one =
        let less : left - 1 ≡ fewer = omega (arith, one) in
        subst (λ (n : ℕ). Counting img g kind before whole first (set counts b value) n next) less counting_less

  pub counting_end : left ≤ 0 → (rest goal : ℕ → ℕ) → Counted before (λ c. count c (chain (next_of img g kind) whole first) + rest c) goal → Counted counts rest goal
  unfolding chain
  counting_end done rest goal from = let c = counting.counted rest goal from in record { so_far = c.so_far; told = c.told; whole = λ z. omega (arith, c.whole z, none_left z) }
    where
      none_left : (z : ℕ) → count z (chain (next_of img g kind) left b) ≡ 0
      none_left z = let nil : left ≡ 0 = omega arith in ap (λ (k : ℕ). count z (chain (next_of img g kind) k b)) nil ∙ count_nil z

-- the blocks of a file in which a block is sought
pub record Seeking (img : List ℕ) (g : Geometry) (kind sought whole first left b : ℕ) : Type 0 where
  pub bodies : (c : ℕ) → 0 < count c (chain (next_of img g kind) left b) → Body g c
  pub same : count sought (chain (next_of img g kind) whole first) ≡ count sought (chain (next_of img g kind) left b)

pub seeking_start : (img : List ℕ) (g : Geometry) (x : Entry) (sought : ℕ) → ((b : ℕ) → 0 < count b (blocks_of img g x) → Body g b)
    → Seeking img g x.kind sought x.length x.first.0 (x.length - 0) x.first.0
unfolding blocks_of
seeking_start img g x sought bodies =
    let all : x.length ≡ x.length - 0 = omega arith in
    subst (λ (n : ℕ). Seeking img g x.kind sought x.length x.first.0 n x.first.0) all (record { bodies = bodies; same = refl })

module _ {img : List ℕ} {g : Geometry} {kind sought whole first left b : ℕ} (seeking : Seeking img g kind sought whole first left b) where
  abbrev then : List ℕ
  then = chain (next_of img g kind) (left - 1) (next_of img g kind b)

  here : 0 < left → (c : ℕ) → count c (chain (next_of img g kind) left b) ≡ count c (b ∷ then)
  unfolding chain
  here some c = ap (λ (k : ℕ). count c (chain (next_of img g kind) k b)) (down left some)

  pub seeking_block : 0 < left → b < g.blocks
  seeking_block some = (seeking.bodies b (omega (arith, here some b, count_same b b then refl))).1

  pub seeking_found : 0 < left → b ≡ sought → (true ≡ true) ↔ (0 < count sought (chain (next_of img g kind) whole first))
  seeking_found some is = (λ yes-it-is. omega (arith, seeking.same, here some sought, count_same sought b then (sym is)), λ there. refl)

  seeking_less : 0 < left → (b ≡ sought → ⊥) → {next : ℕ} → next ≡ next_of img g kind b → Seeking img g kind sought whole first (left - 1) next
  seeking_less some other {next} is =
      record {
        bodies = λ c there. seeking.bodies c (omega (arith, here some c, count_split c b then, there, rest c));
        same = omega (arith, seeking.same, here some sought, count_other sought b then (λ same. other (sym same)), rest sought);
      }
    where
      rest : (c : ℕ) → count c (chain (next_of img g kind) (left - 1) next) ≡ count c then
      rest c = ap (λ (z : ℕ). count c (chain (next_of img g kind) (left - 1) z)) is

  pub seeking_next : 0 < left → (b ≡ sought → ⊥) → {next : ℕ} → next ≡ next_of img g kind b → {fewer : ℕ} → left ≡ fewer + 1
      → Seeking img g kind sought whole first fewer next
  seeking_next some other {next} is {fewer} one =
      let less : left - 1 ≡ fewer = omega (arith, one) in
      subst (λ (n : ℕ). Seeking img g kind sought whole first n next) less (seeking_less some other is)

  pub seeking_end : left ≤ 0 → (false ≡ true) ↔ (0 < count sought (chain (next_of img g kind) whole first))
  unfolding chain
  seeking_end done =
      let nil : left ≡ 0 = omega arith in (
        λ never. true_not_false (sym never),
        λ there. absurd (omega (arith, there, seeking.same, ap (λ (k : ℕ). count sought (chain (next_of img g kind) k b)) nil, count_nil sought)),
      )

-- where every entry is right
module _ {img : List ℕ} {g : Geometry} (all : AllRight img g) where
  pub entry_bodies : {e : ℕ} → e < slots g → {x : Entry} → x ≡ entry_of img g e → (b : ℕ) → 0 < count b (blocks_of img g x) → Body g b
  entry_bodies {e} inside {x} is b reached = by all.measures.is inside (subst (λ (y : Entry). 0 < count b (blocks_of img g y)) is reached)
    where
      by : {h : Geometry} → geometry_of img ≡ h → e < slots h → 0 < count b (blocks_at img h e) → Body h b
      by same =
          subst (λ (h : Geometry). e < slots h → 0 < count b (blocks_at img h e) → Body h b) same
          (λ low some. right_bodies img (geometry_of img) e b (entry_fine img e (all.entries e low)).right some)

  -- all files counted
  pub counted_start : {counts : List ℕ} → counts ≡ empty_map (length counts) → Counted counts (files_from img g 0) (held img)
  unfolding held
  counted_start {counts} is =
      record {
        so_far = λ b. 0;
        told = λ b.
            let nil : get_or counts b 0 ≡ 0 = ap (λ (m : List ℕ). get_or m b 0) is ∙ empty_zero (length counts) b in
            record { none = λ at. refl; one = λ at. absurd (omega (arith, nil, at)); more = λ at. absurd (omega (arith, nil, at)) };
        whole = λ b.
            let from : slots g - 0 ≡ slots g = omega arith in
            omega (
              arith,
              ap (total (λ i. count b (blocks_at img g i)) 0) from,
              ap (λ (h : Geometry). total (λ i. count b (blocks_at img h i)) 0 (slots h)) all.measures.is,
            );
      }

  pub counted_next : {counts behind : List ℕ} {e : ℕ} → e < slots g → {x : Entry} → x ≡ entry_of img g e → CountsFile img g x counts behind
      → Counted counts (files_from img g e) (held img) → Counted behind (files_from img g (e + 1)) (held img)
  unfolding total
  counted_next {counts} {behind} {e} inside {x} is file c =
      file (files_from img g (e + 1)) (held img) (record { so_far = c.so_far; told = c.told; whole = λ b. omega (arith, c.whole b, split b, blocks b) })
    where
      split : (b : ℕ) → total (λ i. count b (blocks_at img g i)) e (slots g - e)
          ≡ count b (blocks_at img g e) + total (λ i. count b (blocks_at img g i)) (e + 1) (slots g - (e + 1))
      split b = let left : slots g - e ≡ suc (slots g - (e + 1)) = omega arith in ap (total (λ i. count b (blocks_at img g i)) e) left

      blocks : (b : ℕ) → count b (blocks_of img g x) ≡ count b (blocks_at img g e)
      blocks b = ap (λ (y : Entry). count b (blocks_of img g y)) is

  pub counted_end : {counts : List ℕ} {e : ℕ} → slots g ≤ e → Counted counts (files_from img g e) (held img) → Counted counts none (held img)
  unfolding total
  counted_end {counts} {e} done c =
      record {
        so_far = c.so_far;
        told = c.told;
        whole = λ b.
            let left : slots g - e ≡ 0 = omega arith in
            omega (arith, c.whole b, ap (total (λ i. count b (blocks_at img g i)) e) left);
      }

  -- the first block that is counted twice
  module _ {counts : List ℕ} (c : Counted counts none (held img)) where
    blocks_is : (geometry_of img).blocks ≡ g.blocks
    blocks_is = ap (λ (h : Geometry). h.blocks) all.measures.is

    few : (z : ℕ) → get_or counts z 0 ≤ 1 → held img z ≤ 1
    few z small = elim (ℕ_discrete (get_or counts z 0) 0) [
      | yes nil ↦ omega (arith, c.whole z, (c.told z).none nil)
      | no some ↦ omega (arith, c.whole z, (c.told z).one (omega (arith, small, some)))
    ]

    many : (z : ℕ) → held img z ≤ 1 → get_or counts z 0 ≤ 1
    many z once = elim (dec_lt 1 (get_or counts z 0)) [
      | yes two ↦ absurd (omega (arith, once, c.whole z, (c.told z).more two))
      | no small ↦ omega (arith, small)
    ]

    pub shared_none : FirstWrong (λ z. get_or counts z 0 ≤ 1) 0 g.blocks g.blocks → Reported img (each shared 0 (geometry_of img).blocks) nothing_wrong
    shared_none first =
        all_reported (hold_each shared 0 (geometry_of img).blocks (λ z low high. few z (first.before z low (omega (arith, high, blocks_is)))))

    pub shared_told : {b : ℕ} → Sought (λ z. get_or counts z 0 ≤ 1) 0 g.blocks (Some b) → {e : ℕ} → e ≡ second img b
        → Reported img (each shared 0 (geometry_of img).blocks) (record { rule = 9; entry = e; word = 0; block = b })
    shared_told {b} (first, inside) is =
        subst (λ (n : ℕ). Reported img (each shared 0 (geometry_of img).blocks) (record { rule = 9; entry = n; word = 0; block = b })) (sym is)
        (reported_each shared 0 (geometry_of img).blocks b (omega arith) (omega (arith, inside, blocks_is))
        (λ z low less. few z (first.before z low less)) (λ once. first.wrong inside (many b once)))

  -- the second holder
  pub sought_start : (b : ℕ) → second img b ≡ second_from img g b false 0 (slots g - 0)
  unfolding second
  sought_start b =
      let from : slots g ≡ slots g - 0 = omega arith in
      ap (λ (h : Geometry). second_from img h b false 0 (slots h)) all.measures.is ∙ ap (second_from img g b false 0) from

not_there : {n : ℕ} → (false ≡ true) ↔ (0 < n) → n ≤ 0
not_there {n} iff = elim (dec_lt 0 n) [ yes some ↦ true_not_false (sym (iff.1 some)) | no never ↦ omega (arith, never) ]

module _ (img : List ℕ) (g : Geometry) (b e : ℕ) (inside : e < slots g) {x : Entry} (is : x ≡ entry_of img g e) {there : Bool}
    (reaches : (there ≡ true) ↔ (0 < count b (blocks_of img g x))) where
  reached : (there ≡ true) ↔ (0 < count b (blocks_at img g e))
  reached = subst (λ (y : Entry). (there ≡ true) ↔ (0 < count b (blocks_of img g y))) is reaches

  one_less : slots g - e ≡ suc (slots g - (e + 1))
  one_less = omega arith

  pub sought_found : (seen : Bool) → (seen && there) ≡ true → e ≡ second_from img g b seen e (slots g - e)
  sought_found true is-there = sym (ap (second_from img g b true e) one_less ∙ second_here img g b e (slots g - (e + 1)) (reached.0 is-there))
  sought_found false never = true_not_false (sym never)

  pub sought_next : (seen : Bool) → (seen && there) ≡ false → second_from img g b seen e (slots g - e) ≡ second_from img g b (seen || there) (e + 1) (slots g - (e + 1))
  sought_next seen apart = ap (second_from img g b seen e) one_less ∙ by seen there reached apart
    where
      by : (seen there : Bool) → (there ≡ true) ↔ (0 < count b (blocks_at img g e)) → (seen && there) ≡ false
          → second_from img g b seen e (suc (slots g - (e + 1))) ≡ second_from img g b (seen || there) (e + 1) (slots g - (e + 1))
      by true true iff never = true_not_false never
      by true false iff apart = second_past img g b true e (slots g - (e + 1)) (not_there iff)
      by false true iff apart = second_first img g b e (slots g - (e + 1)) (iff.0 refl)
      by false false iff apart = second_past img g b false e (slots g - (e + 1)) (not_there iff)

pub sought_end : (img : List ℕ) (g : Geometry) (b : ℕ) (seen : Bool) (e : ℕ) → slots g ≤ e → 0 ≡ second_from img g b seen e (slots g - e)
unfolding second_from
sought_end img g b seen e done = let left : slots g - e ≡ 0 = omega arith in sym (ap (second_from img g b seen e) left)
