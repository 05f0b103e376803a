-- Means: what the code finds before the data of a line: where the line begins, a word of the header, the header.
use Rattle.std.specs.Prelude.{ℕ, ◌+◌, ◌*◌, ◌≤◌, ◌<◌, ◌≡◌, List, ◌∷◌, length, take, drop, Result, Ok, Err}
use Rattle.stream.specs.declared.Tail.{Tail}
use Rattle.stream.specs.Tail.{rest}
use Rattle.binary.specs.declared.heading.Begin.{Begin}
use Rattle.binary.specs.declared.heading.Word.{Word}
use Rattle.binary.specs.declared.heading.Heading.{Heading}
use Rattle.binary.specs.declared.heading.HeadingFault.{HeadingFault}
use Rattle.binary.specs.declared.heading.HeadingFault.TheVariants.{Cut, Wrong}
use Rattle.binary.specs.BinaryLine.{sum_of}
use Rattle.binary.specs.BinaryRead.{nuls_before, line_from, Header, cut, wrong, counts}

-- where a line begins in the bytes s
pub record LineBegins (s : List ℕ) (r : Begin) : Type 0 where
  pub passed : r.nuls ≡ nuls_before s
  pub stands : rest r.line ≡ line_from s

-- on the way there: so many NULs are passed, and what stands here has as many more
pub record Skipping (s : List ℕ) (nuls : ℕ) (tail : Tail) : Type 0 where
  pub whole : length s ≡ nuls + length (rest tail)
  pub more : nuls_before s ≡ nuls + nuls_before (rest tail)
  pub same : line_from s ≡ line_from (rest tail)

-- the first word of the bytes s, or less
pub data WordStands (s : List ℕ) : Result Word HeadingFault → Type 0 where
  too_few : {there : ℕ} → length s ≡ there → there < 2 → WordStands s (Err (Cut there))
  two_bytes : {low high : ℕ} {behind : Tail} → low < 256 → high < 256 → s ≡ low ∷ (high ∷ rest behind)
      → WordStands s (Ok (record { low = low; high = high; behind = behind }))

-- the bytes s begin with a header of so many bytes, or with its count word alone, which is judged so
pub data HeadingStands (s : List ℕ) (judged : Header) (size : ℕ) : Result Heading HeadingFault → Type 0 where
  ends_inside : {there : ℕ} → judged ≡ cut → length s ≡ there → there < size → HeadingStands s judged size (Err (Cut there))
  is_wrong : judged ≡ wrong → HeadingStands s judged size (Err Wrong)
  tells : {many sum : ℕ} {behind : Tail} → judged ≡ counts many → many ≤ 512 → sum ≡ sum_of (take size s) → sum ≤ 255 * size
      → rest behind ≡ drop size s → size ≤ length s → HeadingStands s judged size (Ok (record { many = many; sum = sum; behind = behind }))
