-- `concur_bench_write` meets its contract: a message written over itself changes nothing.
use Rattle.std.proofs.Common.{◌≡◌, ℕ, List, ◌++◌, length, drop, sym, refl, ap, ◌∙◌, drop_at}
use mathlib.Core.Option.{Option, none, some}
use Rattle.model.specs.Messages.{Message, encode, writable, written_to}
use Rattle.messages.specs.Meaning.{fields_in, message_of}
use Rattle.test_calls.proofs.timed.concur_bench_write.Goals as goal

-- written over itself
twice : (n : ℕ) (m : Option Message) (l : List ℕ) → written_to n m (written_to n m l) ≡ written_to n m l
unfolding written_to
twice n none l = refl
twice n (some m) l = ap (λ q. encode n m ++ q) (drop_at (encode n m) (drop (length (encode n m)) l) (length (encode n m)) refl)

again : (n : ℕ) (m : Option Message) (s t u v : List ℕ) → length t ≡ length s → t ≡ written_to n (writable n m (length s)) s → u ≡ t
    → v ≡ written_to n (writable n m (length u)) u → v ≡ t
again n m s t u v l e f g =
    let w = writable n m (length s) in
    g
    ∙ ap (λ x. written_to n (writable n m (length x)) x) f
    ∙ ap (λ k. written_to n (writable n m k) t) l
    ∙ ap (written_to n w) e
    ∙ twice n w s
    ∙ sym e

pub loop-preserved : goal.loop-preserved
loop-preserved c =
    let a = c.args in
    again a.n (message_of (fields_in c.unwrap_or-message.result)) a.out.now _ _ _
    c.write-written.auto.out c.write-written.ensures.out_after c.loop.invariant c.write.ensures.out_after
