-- Pass 1 over the lines of a source: where each line stands, and that no two lines share a byte.
use Rattle.std.proofs.Common.{◌≡◌, ℕ, ◌+◌, ◌<◌, ◌≤◌, true, false, List, [], ◌∷◌, ◌++◌, Result, Ok, Err, Option, Some, None}
use Rattle.std.proofs.Common.{length, length-append, get_or, refl, sym, ap, ◌∙◌, append_assoc, append-nil, arith, Bool, ℤ, pos, nat_abs}
use Rattle.std.specs.List.{All, list_any}
use Rattle.std.proofs.lemmas.Bool.Decides.{nat_tests}
use Rattle.std.proofs.lemmas.List.Elements.{All-append, All-cons, All-head, All-nil, All-push, All-tail}
use Rattle.std.proofs.lemmas.List.Folds.{list_any_at}
use Rattle.std.proofs.lemmas.List.Quantifiers.{all_pairs_push}
use Rattle.std.proofs.lemmas.List.Sums.{sum_by-cons}
use Rattle.asm_text.specs.declared.fault.AsmFault.{AsmFault}
use Rattle.asm_text.specs.Lines.{lines_with_ends}
use Rattle.asm_core.specs.declared.cell.Cell.{Cell}
use Rattle.asm_core.specs.declared.dialect.Rom.{Rom}
use Rattle.asm_core.specs.declared.line.Body.{Body}
use Rattle.asm_core.specs.declared.line.Body.TheVariants.{Nothing, Equals, Origin, Gives}
use Rattle.asm_core.specs.declared.line.Line.{Line}
use Rattle.asm_core.specs.declared.placed.Placed.{Placed}
use Rattle.asm_core.specs.Cells.{size_of}
use Rattle.asm_core.specs.Expressions.{NameValues, value_of}
use Rattle.asm_core.specs.Images.{at_the_start}
use Rattle.asm_core.specs.Laws.{AreApart, AreInRom, HasNoOrigin, IsAddressAfter, IsInPlace, IsInRom, ReadLine, body_size, line_origin, lines_read, origin_value, sizes_of}
use Rattle.asm_core.specs.Lines.{Language}
use Rattle.asm_core.specs.PassOne.{gives}
use Rattle.asm_core.specs.Passes.{Known, body_looked_at, bytes_looked_at, equals_looked_at, found_before, line_read, looked_at, meets, pass_one, ranged, text_looked_at, then_on, with_label}

-- the address behind a line, by its `.org` or by its size
abbrev moved_by : Option ℕ → ℕ → ℕ
moved_by None next = next
moved_by (Some value) next = value

abbrev moved : ℕ → ReadLine → ℕ
moved at read = moved_by (line_origin read) (at + body_size read.line.body)

-- the address behind lines, line by line
abbrev address_behind : ℕ → List ReadLine → ℕ
address_behind at [] = at
address_behind at (read ∷ lines) = address_behind (moved at read) lines

behind-append : (at : ℕ) (xs ys : List ReadLine) → address_behind at (xs ++ ys) ≡ address_behind (address_behind at xs) ys
behind-append at [] ys = refl
behind-append at (x ∷ xs) ys = behind-append (moved at x) xs ys

behind-none : (at : ℕ) (lines : List ReadLine) → All HasNoOrigin lines → address_behind at lines ≡ at + sizes_of lines
behind-none at [] none = omega arith
behind-none at (read ∷ lines) none =
    let size = body_size read.line.body in
    let rest = behind-none (at + size) lines (All-tail HasNoOrigin read lines none) in
    ap (λ org. address_behind (moved_by org (at + size)) lines) (All-head HasNoOrigin read lines none) ∙ rest ∙ omega (arith, sum_by-cons (λ (r : ReadLine). body_size r.line.body) read lines)

is-behind : (first : ℕ) (lines : List ReadLine) → IsAddressAfter first lines (address_behind first lines)
is-behind first lines = record {
  last = λ before between org value split given none.
      rw (split, behind-append)
      (ap (λ o. address_behind (moved_by o (address_behind first before + body_size org.line.body)) between) given ∙ behind-none value between none);
  none = λ none. behind-none first lines none;
}

-- the line that gives a statement's bytes, and those that give the bytes of lines
abbrev given : ℕ → ℕ → Body → List Placed
given number at Nothing = []
given number at (Equals name e) = []
given number at (Origin e) = []
given number at (Gives cells) = record { line = number; at = at; cells = cells } ∷ []

abbrev placed_by : ℕ → ℕ → List ReadLine → List Placed
placed_by number at [] = []
placed_by number at (read ∷ lines) = given number at read.line.body ++ placed_by (number + 1) (moved at read) lines

-- each of these lines is in its place
given-among : (before : List ReadLine) (read : ReadLine) (lines : List ReadLine) (body : Body) → read.line.body ≡ body
    → All (IsInPlace (before ++ read ∷ lines)) (given (1 + length before) (address_behind 0 before) body)
given-among before read lines Nothing is = All-nil (IsInPlace (before ++ read ∷ lines))
given-among before read lines (Equals name e) is = All-nil (IsInPlace (before ++ read ∷ lines))
given-among before read lines (Origin e) is = All-nil (IsInPlace (before ++ read ∷ lines))
given-among before read lines (Gives cells) is =
    All-cons (IsInPlace (before ++ read ∷ lines)) _ [] (record { before = before; line = read; behind = lines; split = refl; number = refl; gives = is; at = is-behind 0 before })
    (All-nil (IsInPlace (before ++ read ∷ lines)))

placed-among : (before lines : List ReadLine) → All (IsInPlace (before ++ lines)) (placed_by (1 + length before) (address_behind 0 before) lines)
placed-among before [] = All-nil (IsInPlace (before ++ []))
placed-among before (read ∷ lines) =
    let whole : (before ++ read ∷ []) ++ lines ≡ before ++ read ∷ lines = append_assoc before (read ∷ []) lines in
    let count : 1 + length (before ++ read ∷ []) ≡ 1 + length before + 1 = omega (arith, length-append before (read ∷ [])) in
    All-append (IsInPlace (before ++ read ∷ lines)) _ _ (given-among before read lines read.line.body refl)
    (rw (whole, count, behind-append 0 before (read ∷ [])) at (placed-among (before ++ read ∷ []) lines))

-- what is known where nothing was refused
pub then-ok : {X Y : Type 0} (next : X → Result Y AsmFault) (before : Result X AsmFault) (y : Y) → then_on next before ≡ Ok y → (x : X) × (before ≡ Ok x) × (next x ≡ Ok y)
then-ok next (Ok x) y is = (x, refl, is)
then-ok next (Err e) y is = absurd (cc)

abbrev pub fine : {X : Type 0} → X → Result X AsmFault
fine x = Ok x

pub ok-same : {X : Type 0} (x y : X) → fine x ≡ fine y → x ≡ y
ok-same x y is = cc

-- what a statement that isn't refused makes known: where the next line stands, and its bytes, which
-- are in the ROM and no earlier line's
record Steps (rom : Rom) (number : ℕ) (names : NameValues) (body : Body) (known next : Known) : Type 0 where
  at : next.at ≡ moved_by (origin_value names body) (known.at + body_size body)
  placed : next.placed ≡ known.placed ++ given number known.at body
  inside : AreInRom rom known.placed → AreInRom rom next.placed
  apart : AreApart known.placed → AreApart next.placed

stays : (rom : Rom) (number : ℕ) (names : NameValues) (body : Body) (known next : Known) → given number known.at body ≡ []
    → next.at ≡ moved_by (origin_value names body) (known.at + body_size body) → next.placed ≡ known.placed → Steps rom number names body known next
stays rom number names body known next none at same =
    record { at = at; placed = same ∙ rw none (sym (append-nil known.placed)); inside = λ inside. rw same inside; apart = λ apart. rw same apart }

equals-steps : (number : ℕ) (found : Option ℤ) (known next : Known) (name : List ℕ) → equals_looked_at number found known name ≡ Ok next
    → (next.at ≡ known.at) × (next.placed ≡ known.placed)
equals-steps number found known next name is = grind (arith, nat_tests)

origin-steps : (number : ℕ) (found : Option ℤ) (even : Bool) (known next : Known)
    → then_on (λ value. Ok (record { names = known.names; at = nat_abs value; placed = known.placed })) (ranged number (pos 0) (pos 65535) even found) ≡ Ok next
    → (v : ℤ) × (found ≡ Some v) × (next.at ≡ nat_abs v) × (next.placed ≡ known.placed)
origin-steps number found even known next is = grind (arith, nat_tests)

gives-steps : (rom : Rom) (number : ℕ) (known next : Known) (cells : List Cell) → bytes_looked_at rom number known cells ≡ Ok next
    → (next.at ≡ known.at + size_of cells) × (next.placed ≡ known.placed ++ record { line = number; at = known.at; cells = cells } ∷ [])
    × (rom.low ≤ known.at) × (known.at + size_of cells ≤ rom.high) × (list_any (meets known.at (size_of cells)) known.placed ≡ false)
gives-steps rom number known next cells is = grind (arith, nat_tests)

-- two lines that don't meet share no byte
apart-pair : (p one : Placed) (addr : ℕ) → meets p.at (size_of p.cells) one ≡ false → gives addr one ≡ true → gives addr p ≡ false
apart-pair p one addr none given = grind (arith, nat_tests)

no-meeting : (at count : ℕ) (placed : List Placed) (k : ℕ) (d : Placed) → list_any (meets at count) placed ≡ false → k < length placed → meets at count (get_or placed k d) ≡ false
no-meeting at count placed k d none inside = grind (arith, list_any_at)

body-steps : (rom : Rom) (number : ℕ) (names : NameValues) (known next : Known) (body : Body)
    → body_looked_at rom number (found_before names body) known body ≡ Ok next → Steps rom number names body known next
unfolding body_looked_at
body-steps rom number names known next Nothing is =
    let same = ok-same known next is in stays rom number names Nothing known next refl (rw (← same) (omega arith)) (rw (← same) refl)
body-steps rom number names known next (Equals name e) is =
    let steps = equals-steps number (value_of names e) known next name is in stays rom number names (Equals name e) known next refl (omega (arith, steps.0)) steps.1
body-steps rom number names known next (Origin e) is =
    let (v, found, at, placed) = origin-steps number (value_of names e) rom.even known next is in stays rom number names (Origin e) known next refl (rw found at) placed
body-steps rom number names known next (Gives cells) is =
    let p : Placed = record { line = number; at = known.at; cells = cells } in
    let (at, placed, low, high, none) = gives-steps rom number known next cells is in
    record {
      at = at;
      placed = placed;
      inside = λ inside. rw placed (All-push (IsInRom rom) known.placed p inside (record { low = low; high = high }));
      apart = λ apart. rw placed (all_pairs_push (λ one other. (addr : ℕ) → gives addr one ≡ true → gives addr other ≡ false) known.placed p apart
          (λ k d within addr given. apart-pair p (get_or known.placed k d) addr (no-meeting known.at (size_of cells) known.placed k d none within) given));
    }

-- a line that isn't refused is read
line-steps : (language : Language) (rom : Rom) (number : ℕ) (known next : Known) (text : List ℕ) → text_looked_at language rom number known text ≡ Ok next
    → (line : Line) × (line_read language number known text ≡ Ok line) × (looked_at rom number known line ≡ Ok next)
    × (body_looked_at rom number (found_before known.names line.body) (record { names = with_label known.names line.label known.at; at = known.at; placed = known.placed }) line.body ≡ Ok next)
unfolding text_looked_at looked_at
line-steps language rom number known next text is = grind (arith, nat_tests)

-- each line is read, the address goes on from line to line, and the lines that give bytes share no
-- byte and stay in the ROM
record PassSteps (rom : Rom) (number : ℕ) (known after : Known) (lines : List ReadLine) (count : ℕ) : Type 0 where
  all : length lines ≡ count
  at : after.at ≡ address_behind known.at lines
  placed : after.placed ≡ known.placed ++ placed_by number known.at lines
  inside : AreInRom rom known.placed → AreInRom rom after.placed
  apart : AreApart known.placed → AreApart after.placed

pass-steps : (language : Language) (rom : Rom) (number : ℕ) (known after : Known) (texts : List (List ℕ)) → pass_one language rom number known texts ≡ Ok after
    → PassSteps rom number known after (lines_read language rom number known texts) (length texts)
unfolding pass_one lines_read
pass-steps language rom number known after [] is =
    rw (← ok-same known after is) (record { all = refl; at = refl; placed = sym (append-nil known.placed); inside = λ inside. inside; apart = λ apart. apart })
pass-steps language rom number known after (text ∷ texts) is =
    let (next, looked, behind) = then-ok (λ (k : Known). pass_one language rom (number + 1) k texts) (text_looked_at language rom number known text) after is in
    let (line, read, looked_line, stated) = line-steps language rom number known next text looked in
    let named : Known = record { names = with_label known.names line.label known.at; at = known.at; placed = known.placed } in
    let steps = body-steps rom number known.names named next line.body stated in
    let lines : lines_read language rom number known (text ∷ texts) ≡ record { names = known.names; line = line } ∷ lines_read language rom (number + 1) next texts = rw (read, looked_line) refl in
    let rest = pass-steps language rom (number + 1) next after texts behind in
    rw lines (record {
      all = ap (λ n. Prim.Native.Nat.suc n) rest.all;
      at = rest.at ∙ ap (λ a. address_behind a (lines_read language rom (number + 1) next texts)) steps.at;
      placed = rest.placed ∙ rw (steps.placed, steps.at) (append_assoc known.placed (given number known.at line.body) _);
      inside = λ inside. rest.inside (steps.inside inside);
      apart = λ apart. rest.apart (steps.apart apart);
    })

-- what is known after some lines is known whatever stands behind them
pub pass-prefix : (language : Language) (rom : Rom) (number : ℕ) (known : Known) (texts more : List (List ℕ))
    → pass_one language rom number known (texts ++ more) ≡ then_on (λ next. pass_one language rom (number + length texts) next more) (pass_one language rom number known texts)
unfolding pass_one
pass-prefix language rom number known [] more = let same : number + 0 ≡ number = omega arith in rw same refl
pass-prefix language rom number known (text ∷ texts) more =
    let count : number + length (text ∷ texts) ≡ number + 1 + length texts = omega arith in
    let looked = text_looked_at language rom number known text in
    rw count ((λ i. then_on (λ (next : Known). pass-prefix language rom (number + 1) next texts more i) looked) ∙ in_turn _ _ looked)
  where
    in_turn : (first then : Known → Result Known AsmFault) (before : Result Known AsmFault) → then_on (λ known. then_on then (first known)) before ≡ then_on then (then_on first before)
    in_turn first then (Ok known) = refl
    in_turn first then (Err fault) = refl

pub lines-all : (language : Language) (rom : Rom) (number : ℕ) (known next : Known) (texts : List (List ℕ))
    → pass_one language rom number known texts ≡ Ok next → length (lines_read language rom number known texts) ≡ length texts
lines-all language rom number known next texts is = (pass-steps language rom number known next texts is).all

pub lines-behind : (language : Language) (rom : Rom) (number : ℕ) (known next : Known) (texts : List (List ℕ))
    → pass_one language rom number known texts ≡ Ok next → IsAddressAfter known.at (lines_read language rom number known texts) next.at
lines-behind language rom number known next texts is = rw ((pass-steps language rom number known next texts is).at) (is-behind known.at (lines_read language rom number known texts))

pub source-placed : (language : Language) (rom : Rom) (text : List ℕ) (known : Known)
    → pass_one language rom 1 at_the_start (lines_with_ends text) ≡ Ok known → All (IsInPlace (lines_read language rom 1 at_the_start (lines_with_ends text))) known.placed
source-placed language rom text known is =
    rw ((pass-steps language rom 1 at_the_start known (lines_with_ends text) is).placed) (placed-among [] (lines_read language rom 1 at_the_start (lines_with_ends text)))

pub source-apart : (language : Language) (rom : Rom) (text : List ℕ) (known : Known) → pass_one language rom 1 at_the_start (lines_with_ends text) ≡ Ok known → AreApart known.placed
source-apart language rom text known is = (pass-steps language rom 1 at_the_start known (lines_with_ends text) is).apart (λ i j d less within. absurd (omega arith))

pub source-inside : (language : Language) (rom : Rom) (text : List ℕ) (known : Known) → pass_one language rom 1 at_the_start (lines_with_ends text) ≡ Ok known → AreInRom rom known.placed
source-inside language rom text known is = (pass-steps language rom 1 at_the_start known (lines_with_ends text) is).inside (λ k d within. absurd (omega arith))
