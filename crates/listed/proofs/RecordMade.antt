-- What the functions that make one record show at each of their ends.
use Prim.Native.Nat.{ℕ}
use mathlib.Core.Path.{◌≡◌, refl, sym, ap, ◌∙◌}
use mathlib.Core.List.{List, [], ◌∷◌}
use mathlib.Core.Option.{none, some}
use lib.ListN.{get_or}
use Rattle.pack.specs.declared.Key.{Key}
use Rattle.consistency.specs.ConsistentTest.{Opened}
use Rattle.creation.specs.Alloc.{alloc}
use Rattle.creation.specs.AllocMap.{alloc_map}
use Rattle.creation.specs.Openo.{openo}
use Rattle.opening.specs.declared.Opening.{Opening}
use Rattle.opening.specs.declared.Opening.TheVariants.{Input, Update, Extension}
use Rattle.opening.specs.Open.{opened as openOutcome}
use Rattle.opening.specs.Close.{close}
use Rattle.directory.specs.Delet.{delet}
use Rattle.directory.specs.DeletMap.{delet_map}
use Rattle.directory.specs.Keep.{keep}
use Rattle.directory.specs.Renam.{new_key, renam}
use Rattle.appending.specs.Appnd.{appnd}
use Rattle.requests.specs.Request.{Request, outcome}
use Rattle.requests.specs.Request.{OPEN}
use Rattle.requests.specs.RequestMap.{Listable, map_after}
use Rattle.requests.specs.RequestMap as list
use Rattle.listed.specs.declared.Record.{Record}
use Rattle.listed.specs.Record.{file_in, second_in, request_in}
use Rattle.listed.specs.RecordStep.{Fits, Served}
use Rattle.listed.proofs.RecordNames.{names_alloc, names_delet, names_renam, names_appnd, names_keep, names_openo, names_openi, names_openu, names_opene, names_close}
use Rattle.listed.proofs.ListedSmall.{delet_number, renam_number, appnd_number, keep_number, openo_number, open_number, close_number}
use Rattle.listed.proofs.ListedFits.{fits_after}

-- the request was made, and whatever map fitted fits
abbrev pub Unmapped : Opened → List ℕ → Record → ℕ → List ℕ → Type 0
Unmapped opened img r code img' = Served img r code 0 img' × ((map : List ℕ) → Fits img map opened → Fits img' map opened)

module _ {img : List ℕ} (r : Record) {request : Request} (names : request_in r ≡ some request) where
  -- the request that is named was made
  served : {code number : ℕ} {img' : List ℕ} → code ≡ (outcome request img).code → number ≡ get_or (outcome request img).numbers 0 0
      → img' ≡ (outcome request img).image → Served img r code number img'
  served is number image = record { told = rw names is; counted = rw names number; left = rw names image }

  -- and the map kept up
  kept : {map map' img' : List ℕ} {opened : Opened} (listed : Listable request) → img' ≡ (outcome request img).image
      → map' ≡ map_after request listed map img → Fits img map opened → Fits img' map' opened
  kept {map} {map'} {img'} {opened} listed image mapped fits = rw (image, mapped) (fits_after request listed fits)

  -- one with a number
  pub made_numbered : {map map' img' : List ℕ} {opened : Opened} {code number : ℕ} (listed : Listable request) → Fits img map opened
      → code ≡ (outcome request img).code → number ∷ [] ≡ (outcome request img).numbers → img' ≡ (outcome request img).image
      → map' ≡ map_after request listed map img → Served img r code number img' × Fits img' map' opened
  made_numbered listed fits is number image mapped =
      (served is (ap (λ (s : List ℕ). get_or s 0 0) number) image, kept listed image mapped fits)

  -- one without
  pub made : {map map' img' : List ℕ} {opened : Opened} {code : ℕ} (listed : Listable request) → Fits img map opened → (outcome request img).numbers ≡ []
      → code ≡ (outcome request img).code → img' ≡ (outcome request img).image
      → map' ≡ map_after request listed map img → Served img r code 0 img' × Fits img' map' opened
  made listed fits none_told is image mapped = (served is (ap (λ (s : List ℕ). get_or s 0 0) (sym none_told)) image, kept listed image mapped fits)

  -- one that leaves every map
  pub made_unmapped : {img' : List ℕ} {opened : Opened} {code : ℕ} (listed : Listable request) → ((map : List ℕ) → map ≡ map_after request listed map img)
      → (outcome request img).numbers ≡ [] → code ≡ (outcome request img).code → img' ≡ (outcome request img).image
      → Unmapped opened img r code img'
  made_unmapped listed same none_told is image =
      (served is (ap (λ (s : List ℕ). get_or s 0 0) (sym none_told)) image, λ map fits. kept listed image (same map) fits)

-- a request by its number, made on the file of the record
module _ (img : List ℕ) (r : Record) {file : Key} (at : file ≡ file_in r) {opened : Opened} {code : ℕ} {img' : List ℕ} where
  pub alloc_made : {map map' : List ℕ} {number : ℕ} → r.request ≡ 1 → Fits img map opened → code ≡ (alloc img file r.caller r.word6 r.word7).code
      → number ∷ [] ≡ (alloc img file r.caller r.word6 r.word7).numbers → img' ≡ (alloc img file r.caller r.word6 r.word7).image
      → map' ≡ alloc_map map img file r.caller r.word6 r.word7 → Served img r code number img' × Fits img' map' opened
  alloc_made {map} is fits told number image mapped =
      made_numbered r (names_alloc r is) (list.alloc (file_in r) r.caller r.word6 r.word7) fits
      (told ∙ ap (λ (f : Key). (alloc img f r.caller r.word6 r.word7).code) at)
      (number ∙ ap (λ (f : Key). (alloc img f r.caller r.word6 r.word7).numbers) at)
      (image ∙ ap (λ (f : Key). (alloc img f r.caller r.word6 r.word7).image) at)
      (mapped ∙ ap (λ (f : Key). alloc_map map img f r.caller r.word6 r.word7) at)

  pub delet_made : {map map' : List ℕ} → r.request ≡ 2 → Fits img map opened → code ≡ (delet img file r.caller).code → img' ≡ (delet img file r.caller).image
      → map' ≡ delet_map map img file r.caller → Served img r code 0 img' × Fits img' map' opened
  delet_made {map} is fits told image mapped =
      made r (names_delet r is) (list.delet (file_in r) r.caller) fits (delet_number img (file_in r) r.caller)
      (told ∙ ap (λ (f : Key). (delet img f r.caller).code) at)
      (image ∙ ap (λ (f : Key). (delet img f r.caller).image) at)
      (mapped ∙ ap (λ (f : Key). delet_map map img f r.caller) at)

  pub renam_made : r.request ≡ 3
      → code ≡ (renam img file (new_key file r.word6 r.word7 r.word8) r.word9 r.caller).code
      → img' ≡ (renam img file (new_key file r.word6 r.word7 r.word8) r.word9 r.caller).image → Unmapped opened img r code img'
  renam_made is told image =
      made_unmapped r (names_renam r is) (list.renam (file_in r) r.word6 r.word7 r.word8 r.word9 r.caller) (λ map. refl)
      (renam_number img (file_in r) (new_key (file_in r) r.word6 r.word7 r.word8) r.word9 r.caller)
      (told ∙ ap (λ (f : Key). (renam img f (new_key f r.word6 r.word7 r.word8) r.word9 r.caller).code) at)
      (image ∙ ap (λ (f : Key). (renam img f (new_key f r.word6 r.word7 r.word8) r.word9 r.caller).image) at)

  pub appnd_made : {second : Key} → second ≡ second_in r → r.request ≡ 4 → code ≡ (appnd img file second r.caller).code
      → img' ≡ (appnd img file second r.caller).image → Unmapped opened img r code img'
  appnd_made second is told image =
      made_unmapped r (names_appnd r is) (list.appnd (file_in r) (second_in r) r.caller) (λ map. refl) (appnd_number img (file_in r) (second_in r) r.caller)
      (told ∙ (λ j. (appnd img (at j) (second j) r.caller).code))
      (image ∙ (λ j. (appnd img (at j) (second j) r.caller).image))

  pub keep_made : r.request ≡ 5 → code ≡ (keep img file r.caller).code → img' ≡ (keep img file r.caller).image → Unmapped opened img r code img'
  keep_made is told image =
      made_unmapped r (names_keep r is) (list.keep (file_in r) r.caller) (λ map. refl) (keep_number img (file_in r) r.caller)
      (told ∙ ap (λ (f : Key). (keep img f r.caller).code) at)
      (image ∙ ap (λ (f : Key). (keep img f r.caller).image) at)

  pub openo_made : r.request ≡ 6 → code ≡ (openo img file r.caller r.word6).code → img' ≡ (openo img file r.caller r.word6).image
      → Unmapped opened img r code img'
  openo_made is told image =
      made_unmapped r (names_openo r is) (list.openo (file_in r) r.caller r.word6) (λ map. refl) (openo_number img (file_in r) r.caller r.word6)
      (told ∙ ap (λ (f : Key). (openo img f r.caller r.word6).code) at)
      (image ∙ ap (λ (f : Key). (openo img f r.caller r.word6).image) at)

  open_made : (mode : Opening) → request_in r ≡ some (OPEN mode (file_in r) r.caller) → code ≡ (openOutcome mode img file r.caller).code
      → img' ≡ (openOutcome mode img file r.caller).image → Unmapped opened img r code img'
  open_made mode names told image =
      made_unmapped r names (list.opens mode (file_in r) r.caller) (λ map. refl) (open_number img mode (file_in r) r.caller)
      (told ∙ ap (λ (f : Key). (openOutcome mode img f r.caller).code) at)
      (image ∙ ap (λ (f : Key). (openOutcome mode img f r.caller).image) at)

  pub openi_made : r.request ≡ 7 → code ≡ (openOutcome Input img file r.caller).code → img' ≡ (openOutcome Input img file r.caller).image
      → Unmapped opened img r code img'
  openi_made is = open_made Input (names_openi r is)

  pub openu_made : r.request ≡ 8 → code ≡ (openOutcome Update img file r.caller).code → img' ≡ (openOutcome Update img file r.caller).image
      → Unmapped opened img r code img'
  openu_made is = open_made Update (names_openu r is)

  pub opene_made : r.request ≡ 9 → code ≡ (openOutcome Extension img file r.caller).code → img' ≡ (openOutcome Extension img file r.caller).image
      → Unmapped opened img r code img'
  opene_made is = open_made Extension (names_opene r is)

  pub close_made : r.request ≡ 10 → code ≡ (close img file r.word6).code → img' ≡ (close img file r.word6).image → Unmapped opened img r code img'
  close_made is told image =
      made_unmapped r (names_close r is) (list.close (file_in r) r.word6) (λ map. refl) (close_number img (file_in r) r.word6)
      (told ∙ ap (λ (f : Key). (close img f r.word6).code) at)
      (image ∙ ap (λ (f : Key). (close img f r.word6).image) at)

-- "A record that names no such request gets 41 and changes nothing"
pub none_made : (img : List ℕ) (r : Record) {opened : Opened} → request_in r ≡ none → Unmapped opened img r 0o41 img
none_made img r names = (record { told = rw names; counted = rw names; left = rw names }, λ map fits. fits)
