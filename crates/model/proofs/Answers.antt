-- What is known of a call that is answered 0, as the tests of Numbers.antt say it: from the table of numbers.
use Prim.Native.Nat.{ℕ, ◌<◌}
use mathlib.Core.Path.{◌≡◌}
use mathlib.Core.Bool.{true, false}
use mathlib.Core.Logic.{inl, inr}
use Rattle.lists.specs.Functions.{inside}
use Rattle.model.specs.Kinds.{Kind, is_operation, barred}
use Rattle.model.specs.Numbers.{begin_answer, deliver_answer, crash_answer}
use Rattle.model.proofs.NumberClaims.{is_inside, allowed_tested, numbers_as_listed}

pub record BeginTaken (kind : Kind) (n phase crashed count i r t : ℕ) : Type 0 where
  pub member : inside n i ≡ true
  pub slot : inside n r ≡ true
  pub operation : is_operation t ≡ true
  pub allowed : barred i r t ≡ false
  pub is_idle : phase ≡ 0
  pub is_up : crashed ≡ 0
  pub room : count < kind.limit

pub begin_taken : (kind : Kind) (n phase crashed count i r t : ℕ) → begin_answer kind n phase crashed count i r t ≡ 0
    → BeginTaken kind n phase crashed count i r t
begin_taken kind n phase crashed count i r t h =
    let k = ((numbers_as_listed n).begins kind phase crashed count i r t).done.0 h in
    let tested = allowed_tested i r t k.2 in
    record {
      member = is_inside k.0;
      slot = is_inside k.1;
      operation = tested.operation;
      allowed = tested.seven;
      is_idle = k.3;
      is_up = k.4;
      room = k.5;
    }

pub record DeliverTaken (n phase i : ℕ) : Type 0 where
  pub member : inside n i ≡ true
  pub not_idle : phase ≡ 0 → ⊥
  pub not_halted : phase ≡ 6 → ⊥

pub deliver_taken : (n phase crashed i : ℕ) → deliver_answer n phase crashed i ≡ 0 → DeliverTaken n phase i
deliver_taken n phase crashed i h =
    let k = ((numbers_as_listed n).delivers phase crashed i).done.0 h in
    record { member = is_inside k.0; not_idle = λ e. k.1 (inl e); not_halted = λ e. k.1 (inr (inl e)) }

pub crash_taken : (n phase crashed i : ℕ) → crash_answer n phase crashed i ≡ 0 → inside n i ≡ true
crash_taken n phase crashed i h = is_inside (((numbers_as_listed n).crashes phase crashed i).done.0 h).0
