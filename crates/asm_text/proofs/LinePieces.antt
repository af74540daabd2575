-- What the pieces of a line are in its text, and what is known of the tokens that are read so far.
use Prim.Native.Nat.{suc}
use Rattle.std.proofs.Common.{◌≡◌, ℕ, ◌+◌, ◌-◌, ◌<◌, ◌≤◌, ◌⊎◌, inl, inr, zero, is_some, Bool, true, not, cond, ◌||◌, List, [], ◌∷◌, ◌++◌, Option, Some, None, Result, Ok, Err, length, get_or}
use Rattle.std.proofs.Common.{take, drop, refl, sym, ap, subst, ◌∙◌, append_assoc, length-append, length-drop, arith}
use Rattle.std.specs.List.{All, Any, list_all, slice_range}
use Rattle.std.proofs.Math.ListN.{get_or-append}
use Rattle.std.proofs.lemmas.Bool.{cases_lt}
use Rattle.std.proofs.lemmas.Bool.Decides.{nat_tests}
use Rattle.std.proofs.lemmas.List.{append-nil, get_or-drop, length-take-le, nil_from_length, take-append-drop}
use Rattle.std.proofs.lemmas.List.Elements.{All-push, All-weaker}
use Rattle.std.proofs.lemmas.List.Quantifiers.{Any-push}
use Rattle.std.proofs.lemmas.List.Sums.{AllPass-from_list_all}
use Rattle.asm_text.specs.Answers.{Faults}
use Rattle.asm_text.specs.declared.fault.AsmCause.{AsmCause}
use Rattle.asm_text.specs.declared.fault.AsmCause.TheVariants.{BadToken, BadNumber}
use Rattle.asm_text.specs.declared.fault.AsmFault.{AsmFault}
use Rattle.asm_text.specs.declared.fault.AsmFault.TheVariants.{TooLong, Line, OutOfMemory}
use Rattle.asm_text.specs.declared.token.Kind.{Kind}
use Rattle.asm_text.specs.declared.token.Kind.TheVariants.{Name, Number, Punctuation}
use Rattle.asm_text.specs.declared.token.Token.{Token}
use Rattle.asm_text.specs.Lines.{line_feeds}
use Rattle.asm_text.specs.Numbers.{number_of}
use Rattle.asm_text.specs.Pieces.{is_blank, is_dotted_name, is_mark, is_name, is_number_start, is_one_of, kind_of, pieces_of}
use Rattle.asm_text.specs.Spans.{EndsBy, EndsWord, IsAccounted, IsInComment, IsNumbered, IsSliceOf, IsTokenOf, Refused, StandIn}
use Rattle.asm_text.specs.Tokens.{joined, onto, piece_tokens, with_token}
use Rattle.asm_text.proofs.Parting.{IsFirst, first_piece}
use Rattle.asm_text.proofs.Standing.{part_after, part_slice, part_within}

-- tokens before others that stand before the rest
pub onto-append : {X : Type 0} (first then : List X) (rest : Result (List X) AsmFault) → onto first (onto then rest) ≡ onto (first ++ then) rest
onto-append first then (Ok rest) = ap (λ xs. Ok xs) (sym (append_assoc first then rest))
onto-append first then (Err fault) = refl

-- the tokens or the fault of a line, and then the rest
pub joined-onto : (before : List Token) (first rest : Result (List Token) AsmFault) (more : List Token) → onto before first ≡ Ok more → onto before (joined first rest) ≡ onto more rest
joined-onto before (Ok first) rest more said = let same : before ++ first ≡ more = cc in onto-append before first rest ∙ ap (λ xs. onto xs rest) same
joined-onto before (Err fault) rest more said = absurd (cc)

pub joined-fault : (before : List Token) (first rest : Result (List Token) AsmFault) (fault : AsmFault) → Faults fault (onto before first) → Faults fault (onto before (joined first rest))
joined-fault before (Err other) rest fault said = said
joined-fault before (Ok first) rest OutOfMemory said = tt
joined-fault before (Ok first) rest TooLong said = absurd (cc)
joined-fault before (Ok first) rest (Line line cause) said = absurd (cc)

-- what ends early ends by a later place too
pub EndsBy-up : (place later : ℕ) (tokens : List Token) → place ≤ later → All (EndsBy place) tokens → All (EndsBy later) tokens
EndsBy-up place later tokens up early = All-weaker (EndsBy place) (EndsBy later) (λ token ends. let low : token.end ≤ place = ends.1 in (ends.0, omega arith)) tokens early

pub EndsBy-push : (place end : ℕ) (tokens : List Token) (token : Token) → place ≤ end → token.start < token.end → token.end ≤ end → All (EndsBy place) tokens → All (EndsBy end) (tokens ++ token ∷ [])
EndsBy-push place end tokens token up some low early = All-push (EndsBy end) tokens token (EndsBy-up place end tokens up early) (some, low)

pub pieces-none : pieces_of [] ≡ []
unfolding pieces_of
pieces-none = refl

-- the tokens of a line's pieces before a place are pushed, the first of which begins at `start`
pub record IsPushedTo (line start stop : ℕ) (old : List Token) (given : Result (List Token) AsmFault) (place : ℕ) (rest : List ℕ) (tokens : List Token) : Type 0 where
  pub within : place + length rest ≤ stop
  pub so_far : onto tokens (piece_tokens line place (pieces_of rest)) ≡ given
  pub spans : All (EndsBy start) old → All (EndsBy place) tokens

-- the tokens of a text up to a place
pub record Covers (text : List ℕ) (place : ℕ) (tokens : List Token) : Type 0 where
  pub stand : (high : ℕ) → place ≤ high → StandIn text 0 high tokens
  pub each : All (IsTokenOf text) tokens
  pub lines : All (IsNumbered text) tokens
  pub all : (k : ℕ) → k < place → IsAccounted text tokens k

-- what is read of a text up to a place: its tokens, or its first bad piece
abbrev pub Reads : List ℕ → ℕ → Result (List Token) AsmFault → Type 0
Reads text place (Ok tokens) = Covers text place tokens
Reads text place (Err fault) = Refused text fault

StandIn-push : (text : List ℕ) (from to high : ℕ) (tokens : List Token) (token : Token) → to ≤ token.start → token.end ≤ high → IsSliceOf text token → StandIn text from to tokens
    → StandIn text from high (tokens ++ token ∷ [])
StandIn-push text from to high [] token low up slice stand = (omega arith, slice, omega arith)
StandIn-push text from to high (first ∷ tokens) token low up slice stand = (stand.0, stand.1, StandIn-push text first.end to high tokens token low up slice stand.2)

-- the byte at the place is a blank
abbrev HasBlank : List ℕ → ℕ → Type 0
HasBlank text place = is_one_of (32 ∷ 9 ∷ 10 ∷ 13 ∷ []) (get_or text place 0) ≡ true

-- blanks and comments add no token
Covers-on : (text : List ℕ) (from to : ℕ) (tokens : List Token) → from ≤ to → Covers text from tokens → ((k : ℕ) → from ≤ k → k < to → HasBlank text k ⊎ IsInComment text k) → Covers text to tokens
Covers-on text from to tokens up so_far rest =
    let all : (k : ℕ) → k < to → IsAccounted text tokens k = λ k low. elim (cases_lt k from) [ inl early ↦ so_far.all k early | inr late ↦ inr (rest k late low) ] in
    record { stand = λ high above. so_far.stand high (omega arith); each = so_far.each; lines = so_far.lines; all = all }

Any-front : {X : Type 0} (P : X → Type 0) (first then : List X) → Any P first → Any P (first ++ then)
Any-front P first then (k, x, inside, is, holds) = (k, x, omega (arith, length-append first then), get_or-append first then x k inside ∙ is, holds)

Covers-push : (text : List ℕ) (place : ℕ) (tokens : List Token) (token : Token) → token.start ≡ place → IsTokenOf text token → IsNumbered text token → Covers text place tokens
    → Covers text token.end (tokens ++ token ∷ [])
Covers-push text place tokens token here is numbered so_far = record {
  stand = λ high up. StandIn-push text 0 place high tokens token (omega arith) up is.slice (so_far.stand place (omega arith));
  each = All-push (IsTokenOf text) tokens token so_far.each is;
  lines = All-push (IsNumbered text) tokens token so_far.lines numbered;
  all = λ k low. elim (cases_lt k place) [
    | inl early ↦ elim (so_far.all k early) [ inl takes ↦ inl (Any-front (λ t. (t.start ≤ k) × (k < t.end)) tokens (token ∷ []) takes) | inr other ↦ inr other ]
    | inr late ↦ inl (Any-push (λ t. (t.start ≤ k) × (k < t.end)) tokens token (omega arith, low))
  ];
}

-- each byte of a blank is one
all_blank : (piece : List ℕ) → is_blank piece ≡ true → list_all (is_one_of (32 ∷ 9 ∷ 10 ∷ 13 ∷ [])) piece ≡ true
all_blank [] blank = refl
all_blank (byte ∷ []) blank = grind (arith, nat_tests)
all_blank (byte ∷ next ∷ []) blank = grind (arith, nat_tests)
all_blank (byte ∷ next ∷ third ∷ piece) blank = absurd (grind (arith, nat_tests))

-- what has no kind and is not refused is a blank
blank_kind : (blank mark name other number : Bool)
    → ◌≡◌ {A = Result (Option Kind) AsmCause}
    (cond blank (Ok None) (cond mark (Ok (Some Punctuation)) (cond name (Ok (Some Name)) (cond other (Err BadToken) (cond number (Ok (Some Number)) (Err BadNumber)))))) (Ok None)
    → blank ≡ true
blank_kind blank mark name other number said = grind (arith, nat_tests)

blank_piece : (piece : List ℕ) → kind_of piece ≡ Ok None → is_blank piece ≡ true
unfolding kind_of
blank_piece piece said = blank_kind (is_blank piece) (is_mark piece) (is_name piece || is_dotted_name piece) (not (is_number_start piece)) (is_some (number_of piece)) said

-- a line of a text, up to its comment and up to its end
pub record IsLineAt (text : List ℕ) (line place code end : ℕ) : Type 0 where
  pub up : code ≤ end
  pub inside : (k : ℕ) → place ≤ k → k < code → (¬ IsInComment text k) × (line ≡ 1 + line_feeds (take k text))
  pub comment : (k : ℕ) → code ≤ k → k < end → IsInComment text k
  pub ends : EndsWord text code

-- a byte of a part of a text, by its place in the text
pub byte_at : (text : List ℕ) (place n : ℕ) (part after : List ℕ) → drop place text ≡ part ++ after → n < length part → get_or text (place + n) 0 ≡ get_or part n 0
byte_at text place n part after here inside = sym (get_or-drop place text n 0) ∙ ap (λ bytes. get_or bytes n 0) here ∙ get_or-append part after 0 n inside

-- what is left of a line's code
pub record IsLeft (text : List ℕ) (begin stop place : ℕ) (code after : List ℕ) : Type 0 where
  pub late : begin ≤ place
  pub inside : place ≤ length text
  pub here : drop place text ≡ code ++ after
  pub size : place + length code ≡ stop

-- its first piece
module _ (text : List ℕ) (line begin stop end place : ℕ) (code after : List ℕ) (is : IsLineAt text line begin stop end) (left : IsLeft text begin stop place code after)
    (n : ℕ) (first : IsFirst code n) (piece rest : List ℕ) (split : piece ++ rest ≡ code) (long : length piece ≡ suc n) where
  parts : drop place text ≡ piece ++ (rest ++ after)
  parts = left.here ∙ ap (λ bytes. bytes ++ after) (sym split) ∙ append_assoc piece rest after

  within : place + length piece ≤ length text
  within = part_within text place piece (rest ++ after) parts left.inside

  left_after : IsLeft text begin stop (place + length piece) rest after
  left_after =
      let size : place + length piece + length rest ≡ stop = omega (arith, left.size, ap length split, length-append piece rest) in
      record { late = omega (arith, left.late); inside = within; here = part_after text place piece (rest ++ after) parts; size = size }

  ends : EndsWord text (place + length piece)
  ends = rw long (λ low word. elim (cases_lt (suc n) (length code)) [
    | inl more ↦
        let back : place + suc n - 1 ≡ place + n = omega arith in
        let on = rw (back, byte_at text place n code after left.here (omega (arith, first.within))) at word in
        rw (byte_at text place (suc n) code after left.here more) (first.ends more on)
    | inr last ↦ let all : place + suc n ≡ stop = omega (arith, first.within, left.size) in (subst (EndsWord text) (sym all) is.ends) low word
  ])

  blanks : is_blank piece ≡ true → (k : ℕ) → place ≤ k → k < place + length piece → HasBlank text k
  blanks blank k low high =
      let far : place + (k - place) ≡ k = omega arith in
      let all = AllPass-from_list_all (is_one_of (32 ∷ 9 ∷ 10 ∷ 13 ∷ [])) piece (all_blank piece blank) (k - place) 0 (omega arith) in
      rw (← far, byte_at text place (k - place) piece (rest ++ after) parts (omega arith)) all

  -- it takes the tokens one piece on
  piece_read : (before : List Token) (kind : Result (Option Kind) AsmCause) (later : Result (List Token) AsmFault) → Covers text place before → kind_of piece ≡ kind
      → ((more : List Token) → Covers text (place + length piece) more → Reads text end (onto more later)) → Reads text end (onto before (with_token line place (place + length piece) kind later))
  piece_read before (Err cause) later so_far said next =
      let here = is.inside place left.late (omega (arith, first.within, left.size)) in
      let bad : kind_of (slice_range text place (place + length piece)) ≡ Err cause = rw (part_slice text place piece (rest ++ after) parts) said in
      let some : place < place + length piece = omega (arith, long) in
      let to : ℕ = place + length piece in
      let spans = so_far.stand place (omega arith) in
      record { place = place; end = to; before = before; spans = spans; each = so_far.each; all = so_far.all; some = some; within = within; bad = bad; ends = ends; outside = here.0; line = here.1 }
  piece_read before (Ok None) later so_far said next =
      next before (Covers-on text place (place + length piece) before (omega arith) so_far (λ k low high. inl (blanks (blank_piece piece said) k low high)))
  piece_read before (Ok (Some kind)) later so_far said next =
      let here = is.inside place left.late (omega (arith, first.within, left.size)) in
      let token : Token = record { kind = kind; start = place; end = place + length piece; line = line } in
      let slice : IsSliceOf text token = record { some = omega (arith, long); within = within; kind = rw (part_slice text place piece (rest ++ after) parts) said } in
      let covers = Covers-push text place before token refl (record { slice = slice; ends = ends; outside = here.0 }) here.1 so_far in
      subst (Reads text end) (sym (onto-append before (token ∷ []) later)) (next (before ++ token ∷ []) covers)

-- the pieces of what is left of a line's code
pub pieces_read : (text : List ℕ) (line begin stop end fuel place : ℕ) (code after : List ℕ) (before : List Token) → IsLineAt text line begin stop end → length code ≤ fuel
    → IsLeft text begin stop place code after → Covers text place before → Reads text end (onto before (piece_tokens line place (pieces_of code)))
unfolding piece_tokens pieces_of
pieces_read text line begin stop end fuel place [] after before is few left so_far =
    rw append-nil (Covers-on text place end before (omega (arith, is.up, left.size)) so_far (λ k low high. inr (is.comment k (omega (arith, left.size)) high)))
pieces_read text line begin stop end zero place (byte ∷ code) after before is few left so_far = absurd (omega arith)
pieces_read text line begin stop end (suc fuel) place (byte ∷ code) after before is few left so_far =
    let found = first_piece (byte ∷ code) (omega arith) in
    let piece : List ℕ = take (suc found.0) (byte ∷ code) in
    let rest : List ℕ = drop found.0 code in
    let split = take-append-drop (suc found.0) (byte ∷ code) in
    let long = length-take-le (suc found.0) (byte ∷ code) found.1.within in
    let next = left_after text line begin stop end place (byte ∷ code) after is left found.0 found.1 piece rest split long in
    let later = piece_tokens line (place + length piece) (pieces_of rest) in
    rw found.1.pieces (piece_read text line begin stop end place (byte ∷ code) after is left found.0 found.1 piece rest split long before (kind_of piece) later so_far refl
    (λ more covers. pieces_read text line begin stop end fuel (place + length piece) rest after more is (omega (arith, length-drop found.0 code)) next covers))

pub ruleset pieces = (append-nil, onto-append, EndsBy-up, nil_from_length, All-push, EndsBy-push, pieces-none)
