-- Laws of what a command does.
use Rattle.std.proofs.Common.{◌≡◌, ℕ, List, [], ◌∷◌, ◌++◌, ◌+◌, length, take, Option, Some, None, Result, Ok, Err, OnOk, OnErr, zero, suc, refl, sym, ap, ◌∙◌}
use Rattle.outside_io.specs.Known.{grown}
use Rattle.outside_io.specs.Shelf.{Kept}
use Rattle.std.proofs.Math.Seq.{take-append-add}
use Rattle.outside_io.proofs.KnownLaws.{grown-nothing, grown-twice}
use Rattle.outside_io.proofs.TakesLaws.{take-longer}
use Rattle.outside_io.specs.Events.{Event, sent, stored, storing, text_of, stores_of, sending, Did, DidFirst}

-- what comes of an answer's clause
pub on_ok : {T E P Q : Type 0} (result : Result T E) → (P → Q) → OnOk result P → OnOk result Q
on_ok (Ok v) so p = so p
on_ok (Err e) so p = tt

pub always_on_ok : {T E Q : Type 0} (result : Result T E) → Q → OnOk result Q
always_on_ok (Ok v) q = q
always_on_ok (Err e) q = tt

pub on_err : {T E P Q : Type 0} (result : Result T E) → (P → Q) → OnErr result P → OnErr result Q
on_err (Ok v) so p = tt
on_err (Err e) so p = so p

pub text_of-sending : (text : List ℕ) → text_of (sending text) ≡ text
unfolding text_of sending
text_of-sending [] = refl
text_of-sending (b ∷ text) = ap (λ rest. b ∷ rest) (text_of-sending text)

stores_of-sending : (text : List ℕ) → stores_of (sending text) ≡ []
unfolding stores_of sending
stores_of-sending [] = refl
stores_of-sending (b ∷ text) = stores_of-sending text

take-sending : (k : ℕ) (text : List ℕ) → take k (sending text) ≡ sending (take k text)
unfolding sending
take-sending zero text = refl
take-sending (suc k) [] = refl
take-sending (suc k) (b ∷ text) = ap (λ rest. sent b ∷ rest) (take-sending k text)

-- a text was sent
pub did-sending : (text : List ℕ) (out0 out1 : Option (List ℕ)) (stores0 stores1 : Option (List Kept))
    → out1 ≡ grown out0 text → stores1 ≡ stores0 → Did (sending text) out0 out1 stores0 stores1
did-sending text out0 out1 stores0 stores1 took same = record {
  text = took ∙ ap (grown out0) (sym (text_of-sending text));
  stores = same ∙ sym (grown-nothing stores0) ∙ ap (grown stores0) (sym (stores_of-sending text));
}

-- a first part of a text was sent
pub did-first-sending : (text : List ℕ) (out0 out1 : Option (List ℕ)) (stores0 stores1 : Option (List Kept))
    → (k : ℕ) × (out1 ≡ grown out0 (take k text)) → stores1 ≡ stores0 → DidFirst (sending text) out0 out1 stores0 stores1
did-first-sending text out0 out1 stores0 stores1 cut same = record {
  count = cut.0;
  did = rw (take-sending cut.0 text) (did-sending (take cut.0 text) out0 out1 stores0 stores1 cut.1 same);
}

-- nothing was done
pub did-nothing : (events : List Event) (out0 out1 : Option (List ℕ)) (stores0 stores1 : Option (List Kept))
    → out1 ≡ out0 → stores1 ≡ stores0 → DidFirst events out0 out1 stores0 stores1
unfolding text_of stores_of
did-nothing events out0 out1 stores0 stores1 took same = record {
  count = 0;
  did = record { text = took ∙ sym (grown-nothing out0); stores = same ∙ sym (grown-nothing stores0) };
}

pub did-none : (out : Option (List ℕ)) (stores : Option (List Kept)) → Did [] out out stores stores
unfolding text_of stores_of
did-none out stores = record { text = sym (grown-nothing out); stores = sym (grown-nothing stores) }

pub text_of-append : (first rest : List Event) → text_of (first ++ rest) ≡ text_of first ++ text_of rest
unfolding text_of
text_of-append [] rest = refl
text_of-append (sent b ∷ first) rest = ap (λ text. b ∷ text) (text_of-append first rest)
text_of-append (stored name bytes ∷ first) rest = text_of-append first rest

stores_of-append : (first rest : List Event) → stores_of (first ++ rest) ≡ stores_of first ++ stores_of rest
unfolding stores_of
stores_of-append [] rest = refl
stores_of-append (sent b ∷ first) rest = stores_of-append first rest
stores_of-append (stored name bytes ∷ first) rest = ap (λ stores. (name, bytes) ∷ stores) (stores_of-append first rest)

module _ (first rest : List Event) (out0 out1 out2 : Option (List ℕ)) (stores0 stores1 stores2 : Option (List Kept)) where
  -- one thing was done and then another
  pub did-then : Did first out0 out1 stores0 stores1 → Did rest out1 out2 stores1 stores2 → Did (first ++ rest) out0 out2 stores0 stores2
  did-then before after = record {
    text =
        after.text
        ∙ ap (λ (o : Option (List ℕ)). grown o (text_of rest)) before.text
        ∙ grown-twice out0 (text_of first) (text_of rest)
        ∙ ap (grown out0) (sym (text_of-append first rest));
    stores =
        after.stores
        ∙ ap (λ (o : Option (List Kept)). grown o (stores_of rest)) before.stores
        ∙ grown-twice stores0 (stores_of first) (stores_of rest)
        ∙ ap (grown stores0) (sym (stores_of-append first rest));
  }

-- one thing was done, and of another a first part
pub did-then-first : (first rest : List Event) (out0 out1 out2 : Option (List ℕ)) (stores0 stores1 stores2 : Option (List Kept))
    → Did first out0 out1 stores0 stores1 → DidFirst rest out1 out2 stores1 stores2 → DidFirst (first ++ rest) out0 out2 stores0 stores2
did-then-first first rest out0 out1 out2 stores0 stores1 stores2 before after = record {
  count = length first + after.count;
  did =
      rw (take-append-add first rest after.count)
      (did-then first (take after.count rest) out0 out1 out2 stores0 stores1 stores2 before after.did);
}

-- a first part of what comes first is one of the whole
pub did-first-of : (first rest : List Event) (out0 out1 : Option (List ℕ)) (stores0 stores1 : Option (List Kept))
    → DidFirst first out0 out1 stores0 stores1 → DidFirst (first ++ rest) out0 out1 stores0 stores1
did-first-of first rest out0 out1 stores0 stores1 part =
    let (k, same) = take-longer first rest part.count in
    record { count = k; did = rw same part.did }

-- a store was made, where a name was given
pub did-storing : (name : Option (List ℕ)) (bytes held : List ℕ) (out0 out1 : Option (List ℕ)) (stores0 stores1 : Option (List Kept))
    → held ≡ bytes → out1 ≡ out0 → stores1 ≡ grown stores0 (stores_of (storing name held)) → Did (storing name bytes) out0 out1 stores0 stores1
unfolding text_of
did-storing None bytes held out0 out1 stores0 stores1 same idle kept = record { text = idle ∙ sym (grown-nothing out0); stores = kept }
did-storing (Some name) bytes held out0 out1 stores0 stores1 same idle kept = record {
  text = idle ∙ sym (grown-nothing out0);
  stores = kept ∙ ap (λ bytes. grown stores0 (stores_of (storing (Some name) bytes))) same;
}
