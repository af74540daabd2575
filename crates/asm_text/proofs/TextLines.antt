-- What a line is in its text, and how it takes the reading of the text on.
use Prim.Native.Nat.{suc}
use Rattle.std.proofs.Common.{◌≡◌, ℕ, ◌+◌, ◌-◌, ◌<◌, ◌≤◌, inl, inr, zero, true, false, not, eqb, cond, List, [], ◌∷◌, ◌++◌, Result, Ok, length, get_or, take, drop, refl, sym, ap}
use Rattle.std.proofs.Common.{◌∙◌, add-one, append_assoc, length-append, length-take, arith}
use Rattle.std.specs.List.{position_or_len}
use Rattle.std.proofs.Math.Seq.{take-add}
use Rattle.std.proofs.lemmas.Bool.{cases_lt, eqb-true}
use Rattle.std.proofs.lemmas.Bool.Decides.{nat_tests}
use Rattle.std.proofs.lemmas.List.{append-nil, get_or-drop, length-take-le, nil_from_length, take-append-drop}
use Rattle.std.proofs.lemmas.List.Sums.{count_by_more_no, count_by_more_yes, fails_before_first, passes_at_first, prefix_len-le-length, sum_by-append}
use Rattle.asm_text.specs.Answers.{Faults}
use Rattle.asm_text.specs.declared.fault.AsmFault.{AsmFault}
use Rattle.asm_text.specs.declared.fault.AsmFault.TheVariants.{TooLong, Line, OutOfMemory}
use Rattle.asm_text.specs.declared.token.Token.{Token}
use Rattle.asm_text.specs.Lines.{code_of, line_feeds, lines_with_ends}
use Rattle.asm_text.specs.Spans.{EndsWord, IsInComment, Refused}
use Rattle.asm_text.specs.Tokens.{joined, line_tokens, onto, tokens_from, tokens_of}
use Rattle.asm_text.proofs.LinePieces.{Covers, IsLeft, IsLineAt, Reads, byte_at, pieces_read, joined-fault, joined-onto}
use Rattle.asm_text.proofs.Parting.{line_len, lines_with_ends-first}
use Rattle.asm_text.proofs.Standing.{part_after}

-- the place of the first LF, or the end
abbrev feed_of : List ℕ → ℕ
feed_of bytes = position_or_len (λ byte. eqb byte 10) bytes

-- the place where a line's comment begins, or its end
abbrev mark_of : List ℕ → ℕ
mark_of bytes = position_or_len (λ byte. eqb byte 59) bytes

-- no LF stands before the first
no_feeds : (bytes : List ℕ) (n : ℕ) → n ≤ feed_of bytes → line_feeds (take n bytes) ≡ 0
no_feeds bytes zero low = refl
no_feeds bytes (suc n) low =
    let inside : n < length bytes = omega (arith, prefix_len-le-length (λ byte. not (eqb byte 10)) bytes) in
    let other = fails_before_first (λ byte. eqb byte 10) bytes n 0 (omega arith) in
    rw (← add-one n) (count_by_more_no (λ byte. eqb byte 10) bytes n 0 inside other ∙ no_feeds bytes n (omega arith))

-- a line with this number begins at a place, behind an LF
pub record BeginsAt (text : List ℕ) (line place : ℕ) : Type 0 where
  pub number : line ≡ 1 + line_feeds (take place text)
  pub earlier : (k : ℕ) → k < place → line_feeds (take k text) < line_feeds (take place text)

-- the lines of a text before a place are read
pub record IsReadTo (text : List ℕ) (line place : ℕ) (rest : List ℕ) (tokens : List Token) : Type 0 where
  pub here : drop place text ≡ rest
  pub size : place + length rest ≡ length text
  pub small : line ≤ place + 1
  pub so_far : onto tokens (tokens_from line place (lines_with_ends rest)) ≡ tokens_of text
  pub covers : Covers text place tokens
  pub begins : 0 < length rest → BeginsAt text line place

-- a text is refused for the fault of a line
refused : (text : List ℕ) (place : ℕ) (fault : AsmFault) (given : Result (List Token) AsmFault) → Reads text place given → Faults fault given → Refused text fault
refused text place TooLong given reads said = tt
refused text place OutOfMemory given reads said = tt
refused text place (Line line cause) given reads said = rw said at reads

-- one line more
module _ (text : List ℕ) (line place : ℕ) (rest first after : List ℕ) (tokens : List Token) (read : IsReadTo text line place rest tokens)
    (parted : lines_with_ends rest ≡ first ∷ lines_with_ends after) (whole : rest ≡ first ++ after) (some : 0 < length first) where
  there : drop place text ≡ first ++ after
  there = read.here ∙ whole

  sizes : length first + length after ≡ length rest
  sizes = omega (arith, ap length whole, length-append first after)

  begins : BeginsAt text line place
  begins = read.begins (omega (arith, sizes))

  long : length first ≡ line_len rest
  long =
      let same : first ≡ take (line_len rest) rest = let e = lines_with_ends-first rest (omega (arith, sizes)) in cc in
      omega (arith, ap length same, length-take (line_len rest) rest)

  feeds_after : (n : ℕ) → line_feeds (take (place + n) text) ≡ line_feeds (take place text) + line_feeds (take n rest)
  feeds_after n = rw (← read.here) (ap line_feeds (take-add place n text) ∙ sum_by-append (λ byte. cond (eqb byte 10) 1 0) (take place text) (take n (drop place text)))

  same_feeds : (k : ℕ) → place ≤ k → k < place + length first → line_feeds (take k text) ≡ line_feeds (take place text)
  same_feeds k low high =
      let far : place + (k - place) ≡ k = omega arith in
      let none = no_feeds rest (k - place) (omega (arith, long)) in
      rw far at (feeds_after (k - place)) ∙ omega (arith, none)

  -- the LF that ends it, where another line follows
  last_feed : 0 < length after
      → (length first ≡ feed_of rest + 1) × (get_or text (place + feed_of rest) 0 ≡ 10) × (line_feeds (take (place + length first) text) ≡ 1 + line_feeds (take place text))
  last_feed more =
      let n : ℕ = feed_of rest in
      let end : length first ≡ n + 1 = omega (arith, long, sizes) in
      let inside : n < length rest = omega (arith, sizes) in
      let feed : eqb (get_or rest n 0) 10 ≡ true = passes_at_first (λ byte. eqb byte 10) rest 0 inside in
      let byte : get_or rest n 0 ≡ get_or text (place + n) 0 = rw read.here at (get_or-drop place text n 0) in
      let feeds = count_by_more_yes (λ byte. eqb byte 10) rest n 0 inside feed in
      (end, sym byte ∙ eqb-true (get_or rest n 0) 10 feed, rw end (omega (arith, feeds_after (n + 1), feeds, no_feeds rest n (omega arith))))

  short : mark_of first ≤ length first
  short = prefix_len-le-length (λ byte. not (eqb byte 59)) first

  mark_at : mark_of first < length first → get_or text (place + mark_of first) 0 ≡ 59
  mark_at inside = byte_at text place (mark_of first) first after there inside ∙ eqb-true (get_or first (mark_of first) 0) 59 (passes_at_first (λ byte. eqb byte 59) first 0 inside)

  code_outside : (k : ℕ) → place ≤ k → k < place + mark_of first → ¬ IsInComment text k
  code_outside k low high (start, early, mark, feeds) =
      let same = same_feeds k low (omega (arith, short)) in
      elim (cases_lt start place) [
        | inl before ↦ let less = begins.earlier start before in omega (arith, less, same, feeds)
        | inr within ↦
            let far : place + (start - place) ≡ start = omega arith in
            let byte = byte_at text place (start - place) first after there (omega (arith, short)) in
            let is : get_or first (start - place) 0 ≡ 59 = sym byte ∙ rw far mark in
            let other = fails_before_first (λ byte. eqb byte 59) first (start - place) 0 (omega arith) in
            absurd (grind (arith, nat_tests))
      ]

  code_ends : EndsWord text (place + mark_of first)
  code_ends inside word = elim (cases_lt (mark_of first) (length first)) [
    | inl comment ↦ rw (mark_at comment) refl
    | inr end ↦
        let feed = last_feed (omega (arith, short, sizes, read.size)) in
        let here : place + mark_of first - 1 ≡ place + feed_of rest = omega (arith, short, feed.0) in
        let no : false ≡ true = rw (here, feed.1) at word in
        absurd (cc)
  ]

  line_at : IsLineAt text line place (place + mark_of first) (place + length first)
  line_at = record {
    up = omega (arith, short);
    inside = λ k low high. (code_outside k low high, begins.number ∙ ap (λ n. 1 + n) (sym (same_feeds k low (omega (arith, short)))));
    comment = λ k low high.
        let feeds = same_feeds (place + mark_of first) (omega arith) (omega arith) in
        (place + mark_of first, low, mark_at (omega arith), feeds ∙ sym (same_feeds k (omega arith) high));
    ends = code_ends;
  }

  reads : Reads text (place + length first) (onto tokens (line_tokens line place first))
  reads =
      let comment : List ℕ = drop (mark_of first) first in
      let coded = there ∙ ap (λ bytes. bytes ++ after) (sym (take-append-drop (mark_of first) first)) ∙ append_assoc (code_of first) comment after in
      let size = length-take-le (mark_of first) first short in
      let left : IsLeft text place (place + mark_of first) place (code_of first) (comment ++ after) =
      record { late = omega arith; inside = omega (arith, read.size); here = coded; size = omega (arith, size) } in
      pieces_read text line place _ _ (length (code_of first)) place (code_of first) (comment ++ after) tokens line_at (omega arith) left read.covers

  begins_next : 0 < length after → BeginsAt text (line + 1) (place + length first)
  begins_next more = let feed = last_feed more in record {
    number = omega (arith, feed.2, begins.number);
    earlier = λ k low. elim (cases_lt k place) [
      | inl before ↦ let less = begins.earlier k before in omega (arith, less, feed.2)
      | inr within ↦ let same = same_feeds k within low in omega (arith, same, feed.2)
    ];
  }

  pub line_on : (then : List Token) → onto tokens (line_tokens line place first) ≡ Ok then → IsReadTo text (line + 1) (place + length first) after then
  unfolding tokens_from
  line_on then said = record {
    here = part_after text place first after there;
    size = omega (arith, read.size, sizes);
    small = omega (arith, read.small);
    so_far = sym (joined-onto tokens (line_tokens line place first) (tokens_from (line + 1) (place + length first) (lines_with_ends after)) then said) ∙ (rw parted at read.so_far);
    covers = rw said at reads;
    begins = begins_next;
  }

  pub line_refused : (fault : AsmFault) → Faults fault (onto tokens (line_tokens line place first)) → Faults fault (tokens_of text) × Refused text fault
  unfolding tokens_from
  line_refused fault said =
      let later = tokens_from (line + 1) (place + length first) (lines_with_ends after) in
      let so_far : onto tokens (joined (line_tokens line place first) later) ≡ tokens_of text = rw parted at read.so_far in
      (rw so_far at (joined-fault tokens (line_tokens line place first) later fault said), refused text (place + length first) fault (onto tokens (line_tokens line place first)) reads said)

-- the tokens are all, where nothing is left
pub all_read : (text : List ℕ) (line place : ℕ) (rest : List ℕ) (tokens : List Token) → IsReadTo text line place rest tokens → length rest ≡ 0
    → (tokens_of text ≡ Ok tokens) × Covers text (length text) tokens
unfolding tokens_from lines_with_ends
all_read text line place rest tokens read none =
    let empty : rest ≡ [] = nil_from_length rest none in
    let all : place ≡ length text = omega (arith, read.size) in
    (sym (rw empty at read.so_far) ∙ ap (λ ts. Ok ts) (append-nil tokens), rw all at read.covers)

pub ruleset lines = (line_refused, all_read, nil_from_length)
