-- Frames that are dropped, and those that stay.
use Rattle.std.proofs.Common.{◌≡◌, ◌≢◌, ℕ, ◌+◌, ◌%◌, ◌≤◌, List, [], ◌∷◌, ◌++◌, Option, refl, sym, ◌∙◌, ap, length, reverse, arith, append-nil, append_assoc, ◌*◌, ◌-◌, ◌<◌, Some, None, All, IfSome}
use Rattle.std.proofs.Common.{slice_get, option_copied, option_map, Bor, subst, get_or, eqb, zero, suc, length-append}
use Rattle.std.proofs.lemmas.List.{reverse-append}
use Rattle.std.proofs.lemmas.Grind.{flat_map-append}
use Rattle.std.proofs.lemmas.List.Elements.{All-tail}
use Rattle.std.proofs.lemmas.List.Sums.{count_by-le-length}
use Rattle.page_pool.specs.Pool.{Holding}
use Rattle.keyframes.specs.declared.frame.Frame.{Frame}
use Rattle.keyframes.specs.Holders.{AreHeld, LeavesBytes, holders_of, times_in, IsShareable}
use Rattle.keyframes.specs.Keys.{thinned, last_of}
use Rattle.keyframes.specs.Store.{frame_places, HoldsFrames, IsFrame}
use Rattle.keyframes.proofs.HolderLaws.{times-append}

-- the pages of the last frame can be shared
found : {A : Type 0} (P : A → Type 0) (xs : List A) (i : ℕ) (x : A) → slice_get xs i ≡ Some x → All P xs → P x
found P [] i x e all = let f : None ≡ Some x = e in cc
found P (y ∷ xs) zero x e all = let f : y ≡ x = cc in subst P f (all 0 y (omega arith))
found P (y ∷ xs) (suc i) x e all = found P xs i x e (All-tail P y xs all)

pub length-places : (pool : List (Option Holding)) (frames : List Frame) → All (IsFrame pool) frames → length (frame_places frames) ≡ 16 * length frames
length-places pool [] all = refl
length-places pool (frame ∷ frames) all =
    omega (arith, length-places pool frames (All-tail (IsFrame pool) frame frames all), (all 0 frame (omega arith)).len, length-append frame.pages.items (frame_places frames))

pub last-shareable : (pool : List (Option Holding)) (frames : List Frame) → All (IsFrame pool) frames → HoldsFrames pool frames → length frames < 4096
    → (i : ℕ) (last : Option (Bor Frame)) → option_copied last ≡ slice_get frames i → IfSome last (λ frame. All (IsShareable pool) frame.now.pages.items)
last-shareable pool frames all holds few i None e = tt
last-shareable pool frames all holds few i (Some last) e = λ k d h. (
  frame.live k d h,
  (let held = holds.holders (get_or last.now.pages.items k d) in
      omega (arith, held, count_by-le-length (eqb (get_or last.now.pages.items k d)) (frame_places frames), few, length-places pool frames all)),
)
  where
    frame : IsFrame pool last.now
    frame = found (IsFrame pool) frames i last.now (sym e) all

-- the frame before a new one is the last
last-got : (x : Frame) (xs : List Frame) → slice_get (x ∷ xs) (length xs) ≡ last_of (x ∷ xs)
last-got x [] = refl
last-got x (y ∷ xs) = last-got y xs

pub last-read : (frames : List Frame) (last : Option (Bor Frame)) → option_copied last ≡ slice_get frames (length frames - 1)
    → option_map (λ frame. frame.now) last ≡ last_of frames
last-read frames last e = copied last ∙ e ∙ got frames
  where
    copied : (o : Option (Bor Frame)) → option_map (λ frame. frame.now) o ≡ option_copied o
    copied None = refl
    copied (Some frame) = refl

    got : (xs : List Frame) → slice_get xs (length xs - 1) ≡ last_of xs
    got [] = refl
    got (x ∷ xs) = ap (slice_get (x ∷ xs)) (let i : length (x ∷ xs) - 1 ≡ length xs = omega arith in i) ∙ last-got x xs

-- the pages of one frame more
pub places-last : (frames : List Frame) (frame : Frame) (place : ℕ)
    → times_in (frame_places (frames ++ frame ∷ [])) place ≡ times_in (frame_places frames) place + times_in frame.pages.items place
places-last frames frame place =
    ap (λ (places : List ℕ). times_in places place) (flat_map-append (λ (f : Frame). f.pages.items) frames (frame ∷ [])
    ∙ ap (λ (places : List ℕ). frame_places frames ++ places) (append-nil frame.pages.items)) ∙ times-append (frame_places frames) frame.pages.items place

-- the live pages are those of the frames of two lists
pub record HoldsBoth (pool : List (Option Holding)) (kept spare : List Frame) : Type 0 where
  pub held : AreHeld pool
  pub holders : (place : ℕ) → holders_of pool place ≡ times_in (frame_places kept) place + times_in (frame_places spare) place

-- the pages of the last frame are held
pub both-enough : (pool : List (Option Holding)) (rest spare : List Frame) (frame : Frame) → HoldsBoth pool (rest ++ frame ∷ []) spare
    → (place : ℕ) → times_in frame.pages.items place ≤ holders_of pool place
both-enough pool rest spare frame holds place = omega (arith, holds.holders place, places-last rest frame place)

-- it goes over to the other list
pub both-move : (pool : List (Option Holding)) (rest spare : List Frame) (frame : Frame) → HoldsBoth pool (rest ++ frame ∷ []) spare
    → HoldsBoth pool rest (spare ++ frame ∷ [])
both-move pool rest spare frame holds = record { held = holds.held; holders = λ place. omega (arith, holds.holders place, places-last rest frame place, places-last spare frame place) }

pub both-back : (pool : List (Option Holding)) (kept rest : List Frame) (frame : Frame) → HoldsBoth pool kept (rest ++ frame ∷ []) → HoldsBoth pool (kept ++ frame ∷ []) rest
both-back pool kept rest frame holds = record { held = holds.held; holders = λ place. omega (arith, holds.holders place, places-last rest frame place, places-last kept frame place) }

-- its pages are given back
pub both-give : (pool new : List (Option Holding)) (rest spare : List Frame) (frame : Frame) → HoldsBoth pool (rest ++ frame ∷ []) spare → AreHeld new
    → ((place : ℕ) → holders_of new place + times_in frame.pages.items place ≡ holders_of pool place) → HoldsBoth new rest spare
both-give pool new rest spare frame holds held given = record { held = held; holders = λ place. omega (arith, holds.holders place, given place, places-last rest frame place) }

pub leaves-more : (a b c : List (Option Holding)) → LeavesBytes a b → LeavesBytes b c → LeavesBytes a c
leaves-more a b c first then place live = let late = then place live in let early = first place late.0 in (early.0, late.1 ∙ early.1)

-- the last frame stays where the number of those before it is even
thinned-even : {A : Type 0} (rest : List A) (last : A) → length rest % 2 ≡ 0 → thinned (rest ++ last ∷ []) ≡ thinned rest ++ last ∷ []
thinned-even [] last even = refl
thinned-even (a ∷ []) last even = absurd (omega (arith, even))
thinned-even (a ∷ b ∷ rest) last even = ap (λ xs. a ∷ xs) (thinned-even rest last (omega (arith, even)))

thinned-odd : {A : Type 0} (rest : List A) (last : A) → length rest % 2 ≢ 0 → thinned (rest ++ last ∷ []) ≡ thinned rest
thinned-odd [] last odd = absurd (odd refl)
thinned-odd (a ∷ []) last odd = refl
thinned-odd (a ∷ b ∷ rest) last odd = ap (λ xs. a ∷ xs) (thinned-odd rest last (λ e. odd (omega (arith, e))))

-- frames on their way: those from the last on that stay are spare
pub record Thinning (old : List (Option Holding)) (all : List Frame) (pool : List (Option Holding)) (kept spare : List Frame) : Type 0 where
  pub holds : HoldsBoth pool kept spare
  pub list : thinned all ≡ thinned kept ++ reverse spare
  pub bytes : LeavesBytes old pool
  pub len : length pool ≡ length old

pub thinning-stays : (old : List (Option Holding)) (all : List Frame) (pool : List (Option Holding)) (rest spare : List Frame) (frame : Frame)
    → Thinning old all pool (rest ++ frame ∷ []) spare → length rest % 2 ≡ 0 → Thinning old all pool rest (spare ++ frame ∷ [])
thinning-stays old all pool rest spare frame t even = record {
  holds = both-move pool rest spare frame t.holds;
  list = t.list ∙ ap (λ (xs : List Frame). xs ++ reverse spare) (thinned-even rest frame even) ∙ append_assoc (thinned rest) (frame ∷ []) (reverse spare)
      ∙ ap (λ (xs : List Frame). thinned rest ++ xs) (sym (reverse-append spare (frame ∷ [])));
  bytes = t.bytes;
  len = t.len;
}

pub thinning-given : (old : List (Option Holding)) (all : List Frame) (pool new : List (Option Holding)) (rest spare : List Frame) (frame : Frame)
    → Thinning old all pool (rest ++ frame ∷ []) spare → length rest % 2 ≢ 0 → AreHeld new → length new ≡ length pool
    → ((place : ℕ) → holders_of new place + times_in frame.pages.items place ≡ holders_of pool place) → LeavesBytes pool new → Thinning old all new rest spare
thinning-given old all pool new rest spare frame t odd held len given bytes = record {
  holds = both-give pool new rest spare frame t.holds held given;
  list = t.list ∙ ap (λ (xs : List Frame). xs ++ reverse spare) (thinned-odd rest frame odd);
  bytes = leaves-more old pool new t.bytes bytes;
  len = len ∙ t.len;
}

-- frames on their way back
pub record Restoring (old : List (Option Holding)) (all : List Frame) (pool : List (Option Holding)) (kept spare : List Frame) : Type 0 where
  pub holds : HoldsBoth pool kept spare
  pub list : thinned all ≡ kept ++ reverse spare
  pub bytes : LeavesBytes old pool
  pub len : length pool ≡ length old

pub restoring-one : (old : List (Option Holding)) (all : List Frame) (pool : List (Option Holding)) (kept rest : List Frame) (frame : Frame)
    → Restoring old all pool kept (rest ++ frame ∷ []) → Restoring old all pool (kept ++ frame ∷ []) rest
restoring-one old all pool kept rest frame r = record {
  holds = both-back pool kept rest frame r.holds;
  list = r.list ∙ ap (λ (xs : List Frame). kept ++ xs) (reverse-append rest (frame ∷ [])) ∙ sym (append_assoc kept (frame ∷ []) (reverse rest));
  bytes = r.bytes;
  len = r.len;
}
