-- Means: what each of the requests that a list may hold leaves on the map of a pack's blocks.
use Rattle.std.specs.Prelude.{ℕ, List}
use Rattle.pack.specs.declared.Key.{Key}
use Rattle.opening.specs.declared.Opening.{Opening}
use Rattle.creation.specs.AllocMap.{alloc_map}
use Rattle.directory.specs.DeletMap.{delet_map}
use Rattle.requests.specs.Request.{Request, ALLOC, OPENO, OPEN, CLOSE, DELET, RENAM, APPND, KEEP}

-- document 02 §9: "limited to ALLOC, DELET, RENAM, APPND, KEEP, the opens and CLOSE"
pub data Listable : Request → Type 0 where
  alloc : (key : Key) (caller protect segments : ℕ) → Listable (ALLOC key caller protect segments)
  delet : (key : Key) (caller : ℕ) → Listable (DELET key caller)
  renam : (old : Key) (name1 name2 extension protect caller : ℕ) → Listable (RENAM old name1 name2 extension protect caller)
  appnd : (first second : Key) (caller : ℕ) → Listable (APPND first second caller)
  keep : (key : Key) (caller : ℕ) → Listable (KEEP key caller)
  openo : (key : Key) (caller protect : ℕ) → Listable (OPENO key caller protect)
  opens : (mode : Opening) (key : Key) (caller : ℕ) → Listable (OPEN mode key caller)
  close : (key : Key) (mode : ℕ) → Listable (CLOSE key mode)

-- ALLOC marks its run, DELET takes the blocks of its file off, the other eight leave the map
abbrev pub map_after : (r : Request) → Listable r → List ℕ → List ℕ → List ℕ
map_after r (alloc key caller protect segments) map img = alloc_map map img key caller protect segments
map_after r (delet key caller) map img = delet_map map img key caller
map_after r (renam old name1 name2 extension protect caller) map img = map
map_after r (appnd first second caller) map img = map
map_after r (keep key caller) map img = map
map_after r (openo key caller protect) map img = map
map_after r (opens mode key caller) map img = map
map_after r (close key mode) map img = map
