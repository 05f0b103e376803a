-- One check serves a whole list: behind each request that a list may hold, what the pack was opened as and the map of its blocks fit the image as before.
use Prim.Native.Nat.{ℕ}
use mathlib.Core.Path.{sym, ◌∙◌}
use mathlib.Core.List.{List}
use Rattle.consistency.specs.ConsistentTest.{Opened}
use Rattle.requests.specs.Request.{Request, outcome}
use Rattle.requests.specs.RequestMap.{Listable, map_after}
use Rattle.requests.proofs.RequestOpened.{opened_stays}
use Rattle.requests.proofs.RequestMapped.{no_format, says_stays}
use Rattle.listed.specs.RecordStep.{Fits}

pub fits_after : {img map : List ℕ} {opened : Opened} (request : Request) (listed : Listable request)
    → Fits img map opened → Fits (outcome request img).image (map_after request listed map img) opened
fits_after {img} {map} request listed fits =
    record { opens = fits.opens ∙ sym (opened_stays request (no_format request listed) img); mapped = says_stays request listed map img fits.mapped }
