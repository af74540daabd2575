-- What a device's move does to what it represents.
use Rattle.std.proofs.Common.{◌≡◌, ℕ, ◌+◌, ◌-◌, ◌^◌, ◌≤◌, ◌<◌, Bool, true, false, not, ◌&&◌, ◌==◌, nat_le, min, Some, None, refl, sym, ap, ◌∙◌, arith}
use Rattle.std.proofs.lemmas.Bool.Decides.{nat_tests}
use Rattle.board_base.specs.Pokey.{PokeyValue}
use Rattle.board_base.specs.Ticks.{times}
use Rattle.board_base.proofs.TickLaws.{times-add, times-more, level}
use Rattle.avg_device.proofs.ManyTicks.{vg_made-few}
use Rattle.pokey_chip.proofs.RecordLemmas.{length-levels, levels-zero}
use Rattle.pokey_chip.specs.Tick.{pokey_tick}
use Rattle.pokey_chip.specs.Quiet.{AnswersEachLag}
use Rattle.catchup_devices.specs.Lags.{AsksAt}
use Rattle.lockstep_board.specs.Peripherals.{has_request}

-- a POKEY's answer is as good when it was moved
pub asks-moved : (done to at : ℕ) (p : PokeyValue) → done ≤ to → AsksAt done at p → AsksAt to at (times pokey_tick (to - done) p)
asks-moved done to at p h asks = λ clock from last.
    let e : (to - done) + (clock - to) ≡ clock - done = omega arith in
    ap (λ (q : PokeyValue). q.irqst == 7) (sym (times-add pokey_tick (to - done) (clock - to) p)
    ∙ ap (λ n. times pokey_tick n p) e)
    ∙ asks clock (omega arith) last

never-comes : (clock : ℕ) → clock ≤ 2 ^ 49 → nat_le (2 ^ 64 - 1) clock ≡ false
never-comes clock h = grind (arith, nat_tests)

comes-then : (done n clock : ℕ) → done ≤ clock → clock ≤ 2 ^ 49 → nat_le n (clock - done) ≡ nat_le (min (done + n) (2 ^ 64 - 1)) clock
comes-then done n clock h last = grind (arith, nat_tests)

-- the clock of an answer
pub asks-some : (done n at : ℕ) (p : PokeyValue) → AnswersEachLag p (Some n) → at ≡ min (done + n) (2 ^ 64 - 1) → AsksAt done at p
asks-some done n at p answer is = λ clock from last.
    answer (clock - done) ∙ ap not (comes-then done n clock from last ∙ ap (λ m. nat_le m clock) (sym is))

pub asks-none : (done : ℕ) (p : PokeyValue) → AnswersEachLag p None → AsksAt done (2 ^ 64 - 1) p
asks-none done p answer = λ clock from last. answer (clock - done) ∙ ap not (sym (never-comes clock last))

-- whether a POKEY makes a request by the next tick
pub request-after : (done at clock : ℕ) (p : PokeyValue) → AsksAt done at p → done ≤ clock → clock < 2 ^ 49
    → ((pokey_tick (times pokey_tick (clock - done) p)).irqst == 7) ≡ not (nat_le at (clock + 1))
request-after done at clock p asks h last =
    let e : clock + 1 - done ≡ (clock - done) + 1 = omega arith in
    sym (ap (λ (q : PokeyValue). q.irqst == 7) (ap (λ n. times pokey_tick n p) e ∙ times-more pokey_tick (clock - done) p))
    ∙ asks (clock + 1) (omega arith) (omega arith)

not-again : (b : Bool) → b ≡ not (not b)
not-again true = refl
not-again false = refl

asks-after : (done at clock : ℕ) (p : PokeyValue) → AsksAt done at p → done ≤ clock → clock < 2 ^ 49
    → nat_le at (clock + 1) ≡ has_request (pokey_tick (times pokey_tick (clock - done) p))
asks-after done at clock p asks h last = not-again (nat_le at (clock + 1)) ∙ ap not (sym (request-after done at clock p asks h last))

-- whether it asserts the interrupt line after the next tick, where it is wired to it
pub asserts_irq-next : (wired : Bool) (done at clock : ℕ) (p : PokeyValue) → wired ≡ true → (wired ≡ true → AsksAt done at p) → done ≤ clock → clock < 2 ^ 49
    → nat_le at (clock + 1) ≡ (wired && has_request (pokey_tick (times pokey_tick (clock - done) p)))
asserts_irq-next true done at clock p is asks h last = asks-after done at clock p (asks refl) h last
asserts_irq-next false done at clock p is asks h last = cc

pub ruleset next_requests = asserts_irq-next

pub ruleset generator = (level, vg_made-few)

pub ruleset pokey = (level, levels-zero, length-levels, asks-moved)

pub ruleset asking = (asks-some, asks-none)

pub ruleset clockless = level
