-- The records of a list: which request each names, and with which arguments. The layout is drawn in docs/MANY.md.
use Rattle.std.specs.Prelude.{cond, List, [], ◌∷◌, eqb}
use Rattle.std.proofs.Math.Option.{Option, none, some}
use Rattle.pack.specs.declared.Key.{Key}
use Rattle.asking.specs.Keys.{key_of}
use Rattle.opening.specs.declared.Opening.TheVariants.{Input, Update, Extension}
use Rattle.requests.specs.Request.{Request, ALLOC, OPENO, OPEN, CLOSE, DELET, RENAM, APPND, KEEP}
use Rattle.listed.specs.declared.Record.{Record}

-- the file of a record, words 2 to 5, and the second file of APPND, words 6 to 9: "UIC 0 in a request means the caller's."
abbrev pub file_in : Record → Key
file_in r = key_of r.caller r.name1 r.name2 r.extension r.uic

abbrev pub second_in : Record → Key
second_in r = key_of r.caller r.word6 r.word7 r.word8 r.word9

-- document 02 §9: "request records, limited to ALLOC, DELET, RENAM, APPND, KEEP, the opens and CLOSE", by the number in word 0, 1 to 10.
-- Every word that is not named here is not looked at; a record with another number names no request.
unfoldable pub request_in : Record → Option Request
request_in r =
    cond (eqb r.request 1) (some (ALLOC (file_in r) r.caller r.word6 r.word7))
    (cond (eqb r.request 2) (some (DELET (file_in r) r.caller))
    (cond (eqb r.request 3) (some (RENAM (file_in r) r.word6 r.word7 r.word8 r.word9 r.caller))
    (cond (eqb r.request 4) (some (APPND (file_in r) (second_in r) r.caller))
    (cond (eqb r.request 5) (some (KEEP (file_in r) r.caller))
    (cond (eqb r.request 6) (some (OPENO (file_in r) r.caller r.word6))
    (cond (eqb r.request 7) (some (OPEN Input (file_in r) r.caller))
    (cond (eqb r.request 8) (some (OPEN Update (file_in r) r.caller))
    (cond (eqb r.request 9) (some (OPEN Extension (file_in r) r.caller))
    (cond (eqb r.request 10) (some (CLOSE (file_in r) r.word6)) none)))))))))

-- what the records of a list name, one after another
abbrev pub requests_in : List Record → List (Option Request)
requests_in [] = []
requests_in (r ∷ records) = request_in r ∷ requests_in records
