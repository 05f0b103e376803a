-- A new line read from its NULs on, and a line that goes on: what the parts tell is what the definition finds.
use Prim.Native.Nat.{ℕ, zero, suc, ◌+◌, ◌≤◌}
use mathlib.Core.Path.{◌≡◌, refl, sym, ap, ◌∙◌, subst}
use mathlib.Core.List.{List}
use native.Mathlib.Omega.{arith}
use lib.ListN.{length, take, drop, length-drop}
use Rattle.std.specs.Prelude.{Result, Ok, Err}
use Rattle.stream.specs.Tail.{rest}
use Rattle.lines.specs.declared.LineMode.{LineMode}
use Rattle.binary.specs.declared.heading.Begin.{Begin}
use Rattle.binary.specs.declared.heading.Heading.{Heading}
use Rattle.binary.specs.declared.heading.HeadingFault.{HeadingFault}
use Rattle.binary.specs.declared.heading.HeadingFault.TheVariants.{Cut, Wrong}
use Rattle.binary.specs.declared.binary_read.Part.{Part}
use Rattle.binary.specs.BinaryLine.{sum_of}
use Rattle.binary.specs.BinaryRead.{nuls_before, line_from, header_of, cut_found, wrong_found, behind, data_found, binary_found}
use Rattle.binary.specs.BinaryCases.{HeaderCut, HeaderWrong, BinaryCase, header_cut, header_wrong, new_line}
use Rattle.binary.specs.Heading.{LineBegins, HeadingStands, ends_inside, is_wrong, tells}
use Rattle.binary.specs.BinaryPart.{ReadsAs}
use Rattle.binary.proofs.BinaryCases.{data_kind, data_case, case_only}
use Rattle.binary.proofs.BinaryProgress.{nuls_most, passed_most}

module _ {s : List ℕ} {begin : Begin} (begins : LineBegins s begin) {h : Result Heading HeadingFault}
    (heads : HeadingStands (rest begin.line) (header_of (rest begin.line)) 4 h) where
  same_header : header_of (rest begin.line) ≡ header_of (line_from s)
  same_header = ap header_of begins.stands

  whole : length s ≡ begin.nuls + length (rest begin.line)
  whole = omega (arith, begins.passed, ap length begins.stands, length-drop (nuls_before s) s, nuls_most s)

  -- how many bytes there are before the data
  pub cut_within : {there : ℕ} → h ≡ Err (Cut there) → begin.nuls + there ≡ length s
  cut_within told = by (subst (HeadingStands (rest begin.line) (header_of (rest begin.line)) 4) told heads)
    where
      by : {there : ℕ} → HeadingStands (rest begin.line) (header_of (rest begin.line)) 4 (Err (Cut there)) → begin.nuls + there ≡ length s
      by (ends_inside is long few) = omega (arith, whole, long)

  pub new_cut : (mode : LineMode) (most : ℕ) (buffer : List ℕ) {there : ℕ} → h ≡ Err (Cut there)
      → ReadsAs (binary_found mode most 0 0 s) buffer buffer (record { count = 0; status = 64; passed = begin.nuls + there; coming = 0; sum = 0 })
  new_cut mode most buffer told =
      by (subst (HeadingStands (rest begin.line) (header_of (rest begin.line)) 4) told heads) (cut_within told)
    where
      by : {there : ℕ} → HeadingStands (rest begin.line) (header_of (rest begin.line)) 4 (Err (Cut there)) → begin.nuls + there ≡ length s
          → ReadsAs (binary_found mode most 0 0 s) buffer buffer (record { count = 0; status = 64; passed = begin.nuls + there; coming = 0; sum = 0 })
      by (ends_inside is long few) within =
          let case : BinaryCase mode most 0 s 0 HeaderCut (cut_found s) = header_cut (sym same_header ∙ is) in
          let found : cut_found s ≡ binary_found mode most 0 0 s = (case_only case).1 in
          rw (← found) (record { tells = record { count = refl; status = refl; passed = within; coming = refl; sum = refl }; laid = refl })

  pub new_wrong : (mode : LineMode) (most : ℕ) (buffer : List ℕ) → h ≡ Err Wrong
      → ReadsAs (binary_found mode most 0 0 s) buffer buffer (record { count = 0; status = 4; passed = 0; coming = 0; sum = 0 })
  new_wrong mode most buffer told = by (subst (HeadingStands (rest begin.line) (header_of (rest begin.line)) 4) told heads)
    where
      by : HeadingStands (rest begin.line) (header_of (rest begin.line)) 4 (Err Wrong)
          → ReadsAs (binary_found mode most 0 0 s) buffer buffer (record { count = 0; status = 4; passed = 0; coming = 0; sum = 0 })
      by (is_wrong is) =
          let case : BinaryCase mode most 0 s 0 HeaderWrong wrong_found = header_wrong (sym same_header ∙ is) in
          let found : wrong_found ≡ binary_found mode most 0 0 s = (case_only case).1 in
          rw (← found) (record { tells = record { count = refl; status = refl; passed = refl; coming = refl; sum = refl }; laid = refl })

  module _ {headed : Heading} (told : h ≡ Ok headed) where
    -- what the reading of the data asks
    pub new_ready : (headed.many ≤ 512) × (headed.sum ≤ 1024)
    new_ready = by (subst (HeadingStands (rest begin.line) (header_of (rest begin.line)) 4) told heads)
      where
        by : {v : Heading} → HeadingStands (rest begin.line) (header_of (rest begin.line)) 4 (Ok v)
            → (v.many ≤ 512) × (v.sum ≤ 1024)
        by (tells is few added small stands long) = (few, omega (arith, small))

    new_found : (mode : LineMode) (most : ℕ)
        → binary_found mode most 0 0 s ≡ behind (nuls_before s + 4) (data_found mode most headed.many headed.sum (rest headed.behind))
    new_found mode most = by (subst (HeadingStands (rest begin.line) (header_of (rest begin.line)) 4) told heads)
      where
        by : {v : Heading} → HeadingStands (rest begin.line) (header_of (rest begin.line)) 4 (Ok v)
            → binary_found mode most 0 0 s ≡ behind (nuls_before s + 4) (data_found mode most v.many v.sum (rest v.behind))
        by (tells {many = m} {sum = n} {behind = t} is few added small stands long) =
            let line : rest begin.line ≡ line_from s = begins.stands in
            let sums : n ≡ sum_of (take 4 (line_from s)) = added ∙ ap (λ (u : List ℕ). sum_of (take 4 u)) line in
            let left : rest t ≡ drop 4 (line_from s) = stands ∙ ap (drop 4) line in
            let inner = data_found mode most m (sum_of (take 4 (line_from s))) (drop 4 (line_from s)) in
            let case : BinaryCase mode most 0 s 0 (data_kind mode most m (drop 4 (line_from s))) (behind (nuls_before s + 4) inner) =
            new_line m (sym same_header ∙ is) (data_case most m (sum_of (take 4 (line_from s))) (drop 4 (line_from s)) mode) in
            sym (case_only case).1
            ∙ ap (λ (u : ℕ). behind (nuls_before s + 4) (data_found mode most m u (drop 4 (line_from s)))) (sym sums)
            ∙ ap (λ (u : List ℕ). behind (nuls_before s + 4) (data_found mode most m n u)) (sym left)

    module _ (mode : LineMode) (most : ℕ) {buffer after : List ℕ} {part : Part}
        (read : ReadsAs (data_found mode most headed.many headed.sum (rest headed.behind)) buffer after part) where
      pub new_read : ReadsAs (binary_found mode most 0 0 s) buffer after
          (record { count = part.count; status = part.status; passed = begin.nuls + 4 + part.passed; coming = part.coming; sum = part.sum })
      new_read =
          let t = read.tells in
          rw (new_found mode most) (record {
            tells =
                record {
                  count = t.count;
                  status = t.status;
                  passed = omega (arith, begins.passed, t.passed);
                  coming = t.coming;
                  sum = t.sum;
                };
            laid = read.laid;
          })

      pub new_fits : begin.nuls + 4 + part.passed ≤ length s
      new_fits = omega (arith, new_read.tells.passed, passed_most mode most 0 0 s)

-- by what is passed in
module _ (mode : LineMode) (most : ℕ) (s : List ℕ) {buffer after : List ℕ} {r : Part} where
  pub part_new : {coming sum : ℕ} → coming ≡ 0 → sum ≡ 0 → ReadsAs (binary_found mode most 0 0 s) buffer after r → ReadsAs (binary_found mode most coming sum s) buffer after r
  part_new none nothing read = rw (none, nothing) read

  pub part_on : (coming sum : ℕ) → (coming ≡ 0 → ⊥) → ReadsAs (data_found mode most coming sum s) buffer after r → ReadsAs (binary_found mode most coming sum s) buffer after r
  unfolding binary_found
  part_on zero sum some read = absurd (some refl)
  part_on (suc more) sum some read = read
