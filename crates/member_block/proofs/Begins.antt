-- What begin's step asks of a block, where the rule's answer on the block is 0; so where a check of the rule passed.
use Prim.Native.Nat.{ℕ, ◌<◌, ◌^◌}
use mathlib.Core.Path.{◌≡◌, refl, sym, ap, ◌∙◌}
use mathlib.Core.Bool.{true}
use mathlib.Core.List.{List}
use Rattle.std.proofs.Common.{Fits, w32}
use Rattle.std.specs.Prelude.{Result, Ok, Err, OnOk}
use native.Mathlib.Omega.{arith}
use Rattle.lists.specs.Functions.{inside, Within}
use Rattle.lists.specs.Parts.{words}
use Rattle.lists.proofs.Functions.{inside_low, inside_high}
use Rattle.model.specs.Kinds.{Kind}
use Rattle.model.specs.Table.{phase_at, crashed_at, member_of}
use Rattle.model.specs.Numbers.{begin_answer}
use Rattle.model.proofs.Answers.{begin_taken}
use Rattle.rules.specs.declared.refusal.Refusal.{Refusal}
use Rattle.rules.specs.Refusals.{answer}
use Rattle.member_block.specs.Needs.{Block, Begins}

pub within : (n k : ℕ) → inside n k ≡ true → Within n k
within n k h = record { least = inside_low n k h; most = inside_high n k h }

pub begins : (kind : Kind) → kind.limit < 2 ^ 32 → (n i : ℕ) (l : List ℕ) (r t : ℕ) → Block n l
    → (let m = member_of n (words l) in begin_answer kind n m.phase m.crashed (m.own r) i r t) ≡ 0 → Begins n l r
begins kind small n i l r t b h =
    let m = member_of n (words l) in
    let k = begin_taken kind n m.phase m.crashed (m.own r) i r t h in
    let spare = k.room in
    record { block = b; slot = within n r k.slot; room = omega arith }

-- the check of a begin, by any kind that has its limit, with the slot's own count
pub begins_checked : (limit n i : ℕ) (l : List ℕ) (r t count : ℕ) (result : Result (Unit {0}) Refusal) → Fits w32 limit → Block n l
    → count ≡ (member_of n (words l)).own r
    → ((kind : Kind) → limit ≡ kind.limit → answer result ≡ begin_answer kind n (words l phase_at) (words l crashed_at) count i r t)
    → OnOk result (Begins n l r)
unfolding member_of
begins_checked limit n i l r t count (Ok done) small b e h =
    let w = words l in
    let kind : Kind = record { limit = limit; most = 0; sized = omega arith } in
    begins kind small.fits n i l r t b (ap (λ k. begin_answer kind n (w phase_at) (w crashed_at) k i r t) (sym e) ∙ sym (h kind refl))
begins_checked limit n i l r t count (Err refusal) small b e h = tt
