-- What was fetched of the data, judged: the buffer is full, the bytes end, or the line is read; and so what the definition finds is told and laid.
use Prim.Native.Nat.{ℕ, suc, ◌+◌, ◌-◌, ◌%◌, ◌≤◌, ◌<◌, min}
use mathlib.Core.Path.{◌≡◌, refl, sym, ap, ◌∙◌}
use mathlib.Core.Bool.{Bool, true, false, not, cond, ◌&&◌, true≢false, false≢true}
use mathlib.Core.List.{List, [], ◌∷◌}
use native.Mathlib.Decide.{dec_lt}
use native.Mathlib.Numerals.{add-one}
use native.Mathlib.Omega.{arith}
use lib.Dec.{eqb, leb, ltb}
use lib.ListN.{length, take, drop, get_or, length-take, length-drop}
use lib.Seq.{drop-cons}
use borrow.Author.Tests.{eqb-true, eqb-false, ltb-true, ltb-false, le-leb, lt-leb}
use Rattle.stream.specs.declared.Tail.{Tail}
use Rattle.stream.specs.Tail.{rest}
use Rattle.stream.proofs.SpotSteps.{spot_end, spot_inside}
use Rattle.stream.proofs.SpotPayload.{next_bytes}
use Rattle.lines.specs.declared.LineMode.{LineMode}
use Rattle.lines.specs.declared.LineMode.TheVariants.{Normal, Special}
use Rattle.lines.specs.LineRead.{status_bit}
use Rattle.lines.specs.LineSteps.{is_special, laid_all}
use Rattle.binary.specs.BinaryLine.{sum_of}
use Rattle.binary.specs.BinaryRead.{is_short, stopped, verified, ended, data_found}
use Rattle.binary.specs.BinaryCases.{GoesOn, surplus_over, held, ends_before, buffer_full, line_read, data_ended}
use Rattle.binary.specs.Fetching.{limit_of, Fetched}
use Rattle.binary.specs.BinaryPart.{Tells, ReadsAs}
use Rattle.binary.proofs.BinaryCases.{data_only}
use Rattle.binary.proofs.BinarySums.{sum_take_add}
use Rattle.binary.proofs.BinaryLaid.{data_buffer}
use Rattle.binary.specs.declared.binary_read.Part.{Part}
use Rattle.binary.specs.declared.fetching.Fetch.{Fetch}

module _ (mode : LineMode) (most coming sum : ℕ) where
  module _ (s : List ℕ) {count : ℕ} (counted : count ≡ min (limit_of mode most coming) (length s)) where
    full_facts : (is_special mode && (eqb count most && ltb most coming)) ≡ true
        → (mode ≡ Special) × (count ≡ most) × (most < coming) × (most ≤ length s)
    full_facts is = by mode (eqb count most) (ltb most coming) refl refl counted is
      where
        by : (b : LineMode) (e l : Bool) → eqb count most ≡ e → ltb most coming ≡ l → count ≡ min (limit_of b most coming) (length s) → (is_special b && (e && l)) ≡ true
            → (b ≡ Special) × (count ≡ most) × (most < coming) × (most ≤ length s)
        by Special true true e l c is =
            (refl, eqb-true count most e, ltb-true most coming l, omega (arith, c, eqb-true count most e, ltb-true most coming l))
        by Special true false e l c is = absurd (false≢true is)
        by Special false l' e l c is = absurd (false≢true is)
        by Normal e' l' e l c is = absurd (false≢true is)

    on_facts : (is_special mode && (eqb count most && ltb most coming)) ≡ false
        → GoesOn most coming s mode × (count ≡ min coming (length s))
        × (length s ≤ limit_of mode most coming → length s ≤ coming)
        × (limit_of mode most coming < length s → limit_of mode most coming ≡ coming)
    on_facts is = by mode (eqb count most) (ltb most coming) refl refl counted is
      where
        by : (b : LineMode) (e l : Bool) → eqb count most ≡ e → ltb most coming ≡ l → count ≡ min (limit_of b most coming) (length s) → (is_special b && (e && l)) ≡ false
            → GoesOn most coming s b × (count ≡ min coming (length s)) × (length s ≤ limit_of b most coming → length s ≤ coming)
            × (limit_of b most coming < length s → limit_of b most coming ≡ coming)
        by Special true true e l c is = absurd (true≢false is)
        by Special true false e l c is =
            let few : coming ≤ most = ltb-false most coming l in
            (held few, omega (arith, c, few), λ end. omega (arith, end, few), λ more. omega (arith, few))
        by Special false true e l c is =
            let less : most < coming = ltb-true most coming l in
            let other : count ≡ most → ⊥ = eqb-false count most e in
            let short : length s < most = below other c less in
            (ends_before short, omega (arith, c, short, less), λ end. omega (arith, short, less), λ more. absurd (omega (arith, more, short, less)))
          where
            below : (count ≡ most → ⊥) → count ≡ min (min coming most) (length s) → most < coming → length s < most
            below other c less = at (dec_lt (length s) most)
              where
                at : Dec (length s < most) → length s < most
                at (yes short) = short
                at (no long) = absurd (other (omega (arith, c, long, less)))
        by Special false false e l c is =
            let few : coming ≤ most = ltb-false most coming l in
            (held few, omega (arith, c, few), λ end. omega (arith, end, few), λ more. omega (arith, few))
        by Normal e' l' e l c is = (surplus_over, c, λ end. end, λ more. refl)

    -- bit 0 by the count
    short_same : count ≡ min coming (length s) → is_short most coming s ≡ (ltb most coming && leb most count)
    short_same is = by (ltb most coming) refl
      where
        by : (less : Bool) → ltb most coming ≡ less → (less && leb most (length s)) ≡ (less && leb most count)
        by false l = refl
        by true l = at (dec_lt (length s) most)
          where
            at : Dec (length s < most) → leb most (length s) ≡ leb most count
            at (yes few) = lt-leb most (length s) few ∙ sym (lt-leb most count (omega (arith, is, few)))
            at (no more) = le-leb most (length s) (omega (arith, more)) ∙ sym (le-leb most count (omega (arith, is, more, ltb-true most coming l)))

    module _ {added : ℕ} (summed : added ≡ sum_of (take (limit_of mode most coming) s)) where
      -- the buffer is full
      pub judged_full : (is_special mode && (eqb count most && ltb most coming)) ≡ true
          → Tells (data_found mode most coming sum s)
          (record { count = count; status = 1; passed = count; coming = coming - count; sum = (sum + added) % 256 })
      judged_full is =
          let f = full_facts is in
          let found : data_found mode most coming sum s ≡ stopped most coming sum s =
          ap (λ (m : LineMode). data_found m most coming sum s) f.0 ∙ sym (data_only most coming sum s (buffer_full f.2 f.3)).1 in
          let limit : limit_of mode most coming ≡ most = ap (λ (m : LineMode). limit_of m most coming) f.0 ∙ omega (arith, f.2) in
          rw found (record {
            count = f.1;
            status = refl;
            passed = f.1;
            coming = ap (λ (n : ℕ). coming - n) f.1;
            sum = ap (λ (n : ℕ). (sum + n) % 256) (summed ∙ ap (λ (n : ℕ). sum_of (take n s)) limit);
          })

      module _ (tail : Tail) (stands : rest tail ≡ drop (limit_of mode most coming) s)
          (is : (is_special mode && (eqb count most && ltb most coming)) ≡ false) {short : ℕ} (bit : short ≡ status_bit (ltb most coming && leb most count) 1) where
        -- the bytes end
        pub judged_ended : tail.spot.left ≡ 0
            → Tells (data_found mode most coming sum s) (record { count = count; status = short + 64; passed = count; coming = 0; sum = 0 })
        judged_ended none =
            let f = on_facts is in
            let nothing : length (drop (limit_of mode most coming) s) ≡ 0 = ap length (sym stands ∙ spot_end tail.img.now tail.g tail.spot none) in
            let few : length s ≤ limit_of mode most coming = omega (arith, nothing, length-drop (limit_of mode most coming) s) in
            let all : count ≡ length s = omega (arith, counted, few) in
            let found : data_found mode most coming sum s ≡ ended most coming s = sym (data_only most coming sum s (data_ended f.0 (f.2 few))).1 in
            rw found (record {
              count = all;
              status = ap (λ (n : ℕ). n + 64) (bit ∙ ap (λ (b : Bool). status_bit b 1) (sym (short_same f.1)));
              passed = all;
              coming = refl;
              sum = refl;
            })

        -- the byte behind the data is there
        module _ (some : 0 < tail.spot.left) {judged : ℕ}
            (verdict : judged ≡ status_bit (not (eqb ((sum + added + get_or tail.img.now tail.spot.at 0) % 256) 0)) 2) where
          last : take 1 (drop (limit_of mode most coming) s) ≡ get_or tail.img.now tail.spot.at 0 ∷ []
          last =
              ap (take 1) (sym stands)
              ∙ sym (next_bytes tail.standing some 1 (omega (arith, tail.standing.before some)))
              ∙ ap (take 1) (drop-cons tail.img.now tail.spot.at 0 (spot_inside tail.standing some))

          more : limit_of mode most coming < length s
          more =
              omega (
                arith,
                ap length last,
                length-take 1 (drop (limit_of mode most coming) s),
                length-drop (limit_of mode most coming) s,
              )

          pub judged_read : Tells (data_found mode most coming sum s)
              (record { count = count; status = short + judged; passed = count + 1; coming = 0; sum = 0 })
          judged_read =
              let f = on_facts is in
              let limit : limit_of mode most coming ≡ coming = f.3 more in
              let all : count ≡ coming = omega (arith, counted, more, limit) in
              let found : data_found mode most coming sum s ≡ verified most coming sum s =
              sym (data_only most coming sum s (line_read f.0 (omega (arith, more, limit)))).1 in
              let total : sum + added + get_or tail.img.now tail.spot.at 0 ≡ sum + sum_of (take (suc coming) s) =
              omega (
                arith,
                summed ∙ ap (λ (n : ℕ). sum_of (take n s)) limit,
                ap (λ (n : ℕ). sum_of (take n s)) (add-one coming),
                sum_take_add coming 1 s,
                ap (λ (n : ℕ). sum_of (take 1 (drop n s))) (sym limit) ∙ ap sum_of last ∙ one_sum (get_or tail.img.now tail.spot.at 0),
              ) in
              rw found (record {
                count = all;
                status =
                    ap (λ (n : ℕ). n + judged) (bit ∙ ap (λ (b : Bool). status_bit b 1) (sym (short_same f.1)))
                    ∙ ap (λ (n : ℕ). status_bit (is_short most coming s) 1 + n) (verdict ∙ ap (λ (n : ℕ). status_bit (not (eqb (n % 256) 0)) 2) total);
                passed = omega (arith, all);
                coming = refl;
                sum = refl;
              })
            where
              one_sum : (x : ℕ) → sum_of (x ∷ []) ≡ x
              one_sum x = (unfold sum_of in omega arith)

-- the limit is no more than what is to come
pub limit_few : (mode : LineMode) (most coming : ℕ) {limit : ℕ} → limit ≡ limit_of mode most coming → coming ≤ 512 → limit ≤ 512
limit_few Special most coming is few = omega (arith, is, few)
limit_few Normal most coming is few = omega (arith, is, few)

-- the last byte as the code has it
pub verdict_of_law : (total : ℕ) {byte told judged : ℕ} → byte ≡ told → judged ≡ status_bit (not (eqb ((total + byte) % 256) 0)) 2
    → judged ≡ status_bit (not (eqb ((total + told) % 256) 0)) 2
verdict_of_law total same is = is ∙ ap (λ (n : ℕ). status_bit (not (eqb ((total + n) % 256) 0)) 2) same

-- a full buffer has less than what is to come
pub full_few : (mode : LineMode) (most coming : ℕ) {count : ℕ} → (is_special mode && (eqb count most && ltb most coming)) ≡ true → count ≤ coming
full_few mode most coming {count} is = by mode (eqb count most) (ltb most coming) refl refl is
  where
    by : (b : LineMode) (e l : Bool) → eqb count most ≡ e → ltb most coming ≡ l → (is_special b && (e && l)) ≡ true → count ≤ coming
    by Special true true e l is = omega (arith, eqb-true count most e, ltb-true most coming l)
    by Special true false e l is = absurd (false≢true is)
    by Special false l' e l is = absurd (false≢true is)
    by Normal e' l' e l is = absurd (false≢true is)

-- told of what was fetched, and laid
pub data_read : (mode : LineMode) (coming sum : ℕ) (s : List ℕ) {limit : ℕ} {buffer after : List ℕ} {fetched : Fetch} {r : Part}
    → limit ≡ limit_of mode (length buffer) coming → 0 < length buffer → Fetched s limit buffer after fetched
    → ((t : List ℕ) → fetched.count ≡ min (limit_of mode (length buffer) coming) (length t)
    → fetched.sum ≡ sum_of (take (limit_of mode (length buffer) coming) t)
    → rest fetched.behind ≡ drop (limit_of mode (length buffer) coming) t
    → Tells (data_found mode (length buffer) coming sum t) r)
    → ReadsAs (data_found mode (length buffer) coming sum s) buffer after r
data_read mode coming sum s {buffer = buffer} is some f judged =
    record {
      tells =
          judged s
          (f.counted ∙ ap (λ (n : ℕ). min n (length s)) is)
          (f.summed ∙ ap (λ (n : ℕ). sum_of (take n s)) is)
          (f.stands ∙ ap (λ (n : ℕ). drop n s) is);
      laid =
          f.laid
          ∙ ap (λ (n : ℕ). laid_all (length buffer) buffer 0 (take n s)) is
          ∙ sym (data_buffer (length buffer) coming sum s mode buffer refl some);
    }
