-- The pieces of an answer, one after the other.
use Rattle.std.proofs.Common.{◌≡◌, ◌≢◌, ℕ, ◌+◌, ◌^◌, ◌<◌, ◌≤◌, inl, List, [], ◌++◌, length, refl, ◌∙◌, ap, subst, append_assoc, arith}
use Rattle.run_stretch.specs.Answers.{Call, call_of, put_in, report_of}
use Rattle.run_stretch.specs.declared.calls.report.GravitarReport.{GravitarReport}
use Rattle.command_calls.specs.Bytes.{number_bytes}
use Rattle.outside_io.specs.Events.{stores_of, text_of}
use Rattle.outside_io.specs.Shelf.{Kept}
use Rattle.gravitar_commands.specs.Outcome.{Outcome}
use Rattle.command_calls.specs.Performed.{Performed}
use Rattle.command_calls.specs.Answers.{AnswersCommand, AnswersWith, answer_bytes, answer_of, laid_out}
use Rattle.command_calls.specs.Counted.{counted}

seven : (a b c d t n s : List ℕ)
    → ((((((a ++ b) ++ c) ++ d) ++ t) ++ n) ++ s) ≡ a ++ (b ++ (c ++ (d ++ (t ++ (n ++ s)))))
seven a b c d t n s = simp append_assoc refl

-- seven pieces that were put one after the other
pub one_after_the_other : (a b c d : List ℕ) (status : ℕ) (text note stores : List ℕ)
    → a ≡ number_bytes status → b ≡ number_bytes (length text) → c ≡ number_bytes (length note) → d ≡ number_bytes (length stores)
    → ((((((a ++ b) ++ c) ++ d) ++ text) ++ note) ++ stores) ≡ laid_out status text note stores
one_after_the_other a b c d status text note stores is_a is_b is_c is_d =
    seven a b c d text note stores
    ∙ (ap (λ l. l ++ (b ++ (c ++ (d ++ (text ++ (note ++ stores)))))) is_a
    ∙ (ap (λ l. number_bytes status ++ (l ++ (c ++ (d ++ (text ++ (note ++ stores)))))) is_b
    ∙ (ap (λ l. number_bytes status ++ (number_bytes (length text) ++ (l ++ (d ++ (text ++ (note ++ stores)))))) is_c
    ∙ ap (λ l. number_bytes status ++ (number_bytes (length text) ++ (number_bytes (length note) ++ (l ++ (text ++ (note ++ stores)))))) is_d)))

-- a small count is the number itself
small_count : (n : ℕ) → counted n < 2 ^ 63 → counted n ≡ n
small_count n small = omega (arith, small)

-- an answer that was put into a buffer with room for it
pub gives : (status : ℕ) (out notes stores text note kept : List ℕ) (used : ℕ) (before after : List ℕ) (report : GravitarReport) (number : ℕ)
    → text ≡ out → note ≡ notes → kept ≡ stores → after ≡ put_in (laid_out status text note kept) before
    → used ≤ length before → length before < 2 ^ 63
    → used ≡ counted (length (laid_out status out notes stores)) → number ≡ 0 → report ≡ report_of 0 used 0
    → AnswersWith (laid_out status out notes stores) (call_of [] [] before after report number)
gives status out notes stores text note kept used before after report number is_out is_notes is_stores filled room short is_used done stated =
    let whole : laid_out status text note kept ≡ laid_out status out notes stores =
    ap (λ l. laid_out status l note kept) is_out ∙ (ap (λ l. laid_out status out l kept) is_notes ∙ ap (λ l. laid_out status out notes l) is_stores) in
    let long = length (laid_out status out notes stores) in
    let below : counted long < 2 ^ 63 = subst (λ n. n < 2 ^ 63) is_used (omega (arith, room, short)) in
    let used_is : used ≡ long = is_used ∙ small_count long below in
    inl (record {
      status = done;
      report = stated ∙ ap (λ n. report_of 0 n 0) used_is;
      buffer = filled ∙ ap (λ l. put_in l before) whole;
      room = subst (λ n. n ≤ length before) used_is room;
    })

-- what was done of an outcome makes the answer that has it
pub answers_outcome : (outcome : Outcome) (status : ℕ) (text note : List ℕ) (stores : List Kept) (c : Call)
    → Performed outcome status text note stores → status ≢ 6 → AnswersWith (answer_of status text note stores) c → AnswersCommand outcome c
unfolding answer_bytes
answers_outcome outcome status text note stores c did no_fault answers =
    let same : answer_of status text note stores ≡ answer_of outcome.status (text_of outcome.events) outcome.note (stores_of outcome.events) =
    ap (λ n. answer_of n text note stores) did.of_status
    ∙ (ap (λ l. answer_of outcome.status l note stores) did.of_text
    ∙ (ap (λ l. answer_of outcome.status (text_of outcome.events) l stores) did.of_note
    ∙ ap (λ (l : List Kept). answer_of outcome.status (text_of outcome.events) outcome.note l) did.of_stores)) in
    record {
      no_fault = subst (λ n. n ≢ 6) did.of_status no_fault;
      answers = subst (λ l. AnswersWith l c) same answers;
    }
