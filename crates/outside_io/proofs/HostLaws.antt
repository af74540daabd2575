-- What a host does in one call.
use Rattle.std.proofs.Common.{◌≡◌, ℕ, List, [], ◌∷◌, Option, Result, Ok, Err, OnOk, OnErr, refl, sym}
use Rattle.outside_io.specs.Events.{Did, DidFirst, sending, stored, text_of, stores_of}
use Rattle.outside_io.specs.Known.{grown}
use Rattle.outside_io.specs.Shelf.{Kept}
use Rattle.outside_io.specs.Sink.{Takes}
use Rattle.outside_io.proofs.EventLaws.{did-sending, did-first-sending, on_ok}
use Rattle.outside_io.proofs.KnownLaws.{grown-nothing}

-- one store
pub stored-did : {T E : Type 0} (name bytes : List ℕ) (out : Option (List ℕ)) (stores0 stores1 : Option (List Kept)) (result : Result T E)
    → OnOk result (stores1 ≡ grown stores0 ((name, bytes) ∷ [])) → OnOk result (Did (stored name bytes ∷ []) out out stores0 stores1)
unfolding text_of stores_of
stored-did name bytes out stores0 stores1 result h = on_ok result (λ kept. record { text = sym (grown-nothing out); stores = kept }) h

-- one text, whole
pub wrote-did : {T E : Type 0} (text : List ℕ) (out0 out1 : Option (List ℕ)) (stores : Option (List Kept)) (result : Result T E)
    → Takes out0 out1 text result → OnOk result (Did (sending text) out0 out1 stores stores)
wrote-did text out0 out1 stores (Ok v) took = did-sending text out0 out1 stores stores took refl
wrote-did text out0 out1 stores (Err e) took = tt

-- or a first part of it
pub wrote-first : {T E : Type 0} (text : List ℕ) (out0 out1 : Option (List ℕ)) (stores : Option (List Kept)) (result : Result T E)
    → Takes out0 out1 text result → OnErr result (DidFirst (sending text) out0 out1 stores stores)
wrote-first text out0 out1 stores (Ok v) took = tt
wrote-first text out0 out1 stores (Err e) took = did-first-sending text out0 out1 stores stores took refl

-- a call of the shelf that did nothing
pub nothing-stored : {T E : Type 0} (out : Option (List ℕ)) (stores0 stores1 : Option (List Kept)) (result : Result T E)
    → OnErr result (stores1 ≡ stores0) → OnErr result ((out ≡ out) × (stores1 ≡ stores0))
nothing-stored out stores0 stores1 (Ok v) h = tt
nothing-stored out stores0 stores1 (Err e) h = (refl, h)
