-- Facts about messages, for every n. A message that fits, written, reads back as what the board has of it; bytes that were accepted,
-- written again, are the same bytes.
use Prim.Native.Nat.{ℕ, zero, suc, ◌+◌, ◌-◌, ◌*◌, ◌/◌, ◌%◌, ◌≤◌, ◌<◌}
use native.Mathlib.Nat.{div-div-eq-div-mul, div-lt_iff_lt-mul, mod-lt}
use native.Mathlib.Omega.{arith}
use mathlib.Core.Path.{◌≡◌, refl, sym, ap, ◌∙◌, fun_ext}
use mathlib.Core.Bool.{Bool, true, false, ◌&&◌, ◌||◌}
use mathlib.Core.List.{List, [], ◌∷◌, ◌++◌}
use mathlib.Core.Option.{Option, none, some}
use lib.Dec.{eqb, ltb}
use lib.ListN.{length, length-append, get_or-append}
use borrow.Author.Tests.{eq-eqb, ne_eqb, lt-ltb, le-ltb, eqb-true, eqb-false, ltb-true, ltb-false}
use Rattle.lists.specs.Functions.{from, pasted, inside, each}
use Rattle.lists.specs.Parts.{words, tabulate}
use Rattle.lists.proofs.Functions.{on, by_place, first, second, each_at, inside_in, inside_low}
use Rattle.lists.proofs.Functions.{inside_high, from_at, from_first, from_from, pasted_join}
use Rattle.lists.proofs.Refusals.{no_ground, no_failure}
use Rattle.lists.proofs.Parts.{length-tabulate, tabulate-at, tabulate-same, tabulate-words, tabulate-append, from_append}
use Rattle.model.specs.Records.{Rec, record_within}
use Rattle.model.specs.RecordWords.{record_size, value_of, matrix_of, record_of, record_words, matrix_word}
use Rattle.model.specs.Kinds.{is_operation}
use Rattle.model.specs.Halves.{fit_record}
use Rattle.model.specs.Messages.{Message, submit, reply, commit, outcome, kind_of, byte_parts, head_length, value_length}
use Rattle.model.specs.Messages.{record_length, length_of, fields_at, record_at, number_bytes, number_of, byte_in, number_in}
use Rattle.model.specs.Messages.{headed, record_byte, record_word, record_bytes, record_from, field_bytes, framed, encode}
use Rattle.model.specs.Messages.{message_from, fit_message, right_n, read_number, decode, fit_given, written_length, write_number}
use Rattle.model.specs.Messages.{small_record}
use Rattle.model.specs.Messages.{small, fits, Bytes, message_within}
use Rattle.laws.proofs.Records.{square_small, square_pos, head_words, value_words}
use Rattle.laws.proofs.Records.{matrix_words, record_of-same, record_of-words, record_words_of}

-- Numbers of four bytes.

-- what holds of 0 to 3
four : (P : ℕ → Type 0) → P 0 → P 1 → P 2 → P 3 → (k : ℕ) → k < 4 → P k
four P a b c d zero h = a
four P a b c d (suc zero) h = b
four P a b c d (suc (suc zero)) h = c
four P a b c d (suc (suc (suc zero))) h = d
four P a b c d (suc (suc (suc (suc k)))) h = absurd (omega arith)

pub number_back : (x : ℕ) → x < 4294967296 → number_of (words (number_bytes x)) ≡ x
unfolding number_of number_bytes
number_back x h =
    let d : x / 256 / 256 ≡ x / 65536 = div-div-eq-div-mul x 256 256 in
    let e : x / 65536 / 256 ≡ x / 16777216 = div-div-eq-div-mul x 65536 256 in
    let p : x / 256 ≡ x / 65536 * 256 + x / 256 % 256 = omega arith in
    let q : x / 65536 ≡ x / 16777216 * 256 + x / 65536 % 256 = omega arith in
    let t : x / 16777216 % 256 ≡ x / 16777216 = omega arith in
    omega arith

pub bytes_back : (b : ℕ → ℕ) → ((i : ℕ) → b i < 256) → (k : ℕ) → k < 4 → words (number_bytes (number_of b)) k ≡ b k
unfolding number_of number_bytes
bytes_back b h =
    let p = h 0 in
    let q = h 1 in
    let r = h 2 in
    let s = h 3 in
    four (λ k. words (number_bytes (number_of b)) k ≡ b k) (omega arith) (omega arith) (omega arith) (omega arith)

pub number_of_same : (b c : ℕ → ℕ) → ((k : ℕ) → k < 4 → b k ≡ c k) → number_of b ≡ number_of c
unfolding number_of
number_of_same b c h = rw (h 0 (omega arith), h 1 (omega arith), h 2 (omega arith), h 3 (omega arith))

-- Numbers one after the other.

pub byte_in-at : (w : ℕ → ℕ) (i k : ℕ) → k < 4 → byte_in w (i * 4 + k) ≡ words (number_bytes (w i)) k
unfolding byte_in
byte_in-at w i k h =
    let p : (i * 4 + k) / 4 ≡ i = omega arith in
    let q : (i * 4 + k) % 4 ≡ k = omega arith in
    rw (p, q)

pub byte_in-same : (v w : ℕ → ℕ) (i : ℕ) → v (i / 4) ≡ w (i / 4) → byte_in v i ≡ byte_in w i
unfolding byte_in
byte_in-same v w i h = rw h

-- numbers further on
pub byte_in_from : (w : ℕ → ℕ) (a i : ℕ) → byte_in w (a * 4 + i) ≡ byte_in (from w a) i
unfolding byte_in from
byte_in_from w a i =
    let p : (a * 4 + i) / 4 ≡ a + i / 4 = omega arith in
    let q : (a * 4 + i) % 4 ≡ i % 4 = omega arith in
    rw (p, q)

pub number_in_from : (b : ℕ → ℕ) (a : ℕ) → from (number_in b) a ≡ number_in (from b (a * 4))
unfolding number_in from
number_in_from b a = fun_ext λ i. ap number_of (fun_ext λ k. ap b (let e : (a + i) * 4 + k ≡ a * 4 + (i * 4 + k) = omega arith in e))

pub number_in_at : (b : ℕ → ℕ) (a i : ℕ) → number_in (from b a) i ≡ number_of (from b (a + i * 4))
unfolding number_in
number_in_at b a i = ap number_of (from_from b a (i * 4))

pub number_of_at : (b : ℕ → ℕ) (a : ℕ) → number_of (from b a) ≡ b a * 16777216 + b (a + 1) * 65536 + b (a + 2) * 256 + b (a + 3)
unfolding number_of
number_of_at b a = rw (from_first b a, from_at b a 1, from_at b a 2, from_at b a 3)

-- one number more of a run
pub number_more : (w : ℕ → ℕ) (a i : ℕ) (f : ℕ → ℕ)
    → pasted (a + i * 4) 4 (words (number_bytes (w i))) (pasted a (i * 4) (byte_in w) f) ≡ pasted a ((i + 1) * 4) (byte_in w) f
number_more w a i f =
    pasted_join a (i * 4) 4 (byte_in w) (words (number_bytes (w i))) f (λ k h. sym (byte_in-at w i k h))
    ∙ ap (λ k. pasted a k (byte_in w) f) (let e : i * 4 + 4 ≡ (i + 1) * 4 = omega arith in e)

-- and in the bytes that it is written to
pub number_written_lem : (w : ℕ → ℕ) (a i : ℕ) (f g h : ℕ → ℕ) → g ≡ pasted a (i * 4) (byte_in w) f
    → h ≡ pasted (a + i * 4) 4 (words (number_bytes (w i))) g → h ≡ pasted a ((i + 1) * 4) (byte_in w) f
number_written_lem w a i f g h p q = q ∙ ap (pasted (a + i * 4) 4 (words (number_bytes (w i)))) p ∙ number_more w a i f

pub number_in_same : (b c : ℕ → ℕ) (i : ℕ) → ((k : ℕ) → k < 4 → b (i * 4 + k) ≡ c (i * 4 + k)) → number_in b i ≡ number_in c i
unfolding number_in from
number_in_same b c i h = number_of_same (from b (i * 4)) (from c (i * 4)) h

numbers_back : (w : ℕ → ℕ) (i : ℕ) → w i < 4294967296 → number_in (byte_in w) i ≡ w i
unfolding number_in from
numbers_back w i h =
    number_of_same (from (byte_in w) (i * 4)) (words (number_bytes (w i))) (byte_in-at w i) ∙ number_back (w i) h

run_back : (b : ℕ → ℕ) → ((i : ℕ) → b i < 256) → (i : ℕ) → byte_in (number_in b) i ≡ b i
unfolding byte_in number_in from
run_back b h i =
    bytes_back (from b (i / 4 * 4)) (λ k. h (i / 4 * 4 + k)) (i % 4) (omega arith)
    ∙ ap b (let e : i / 4 * 4 + i % 4 ≡ i = omega arith in e)

-- Records.

module _ (f g : ℕ → ℕ) where
  headed-first : (i : ℕ) → i < byte_parts → headed f g i ≡ f i
  unfolding headed
  headed-first i h = rw (lt-ltb i byte_parts h)

  headed-past : (k : ℕ) → headed f g (byte_parts + k) ≡ g k
  unfolding headed
  headed-past k = rw (le-ltb (byte_parts + k) byte_parts (omega arith)) (ap g (let e : byte_parts + k - byte_parts ≡ k = omega arith in e))

  headed-rest : from (headed f g) byte_parts ≡ g
  unfolding from
  headed-rest = fun_ext headed-past

-- what holds of the parts that are a byte each and of those after them
by_part : (P : ℕ → Type 0) (i : ℕ) → (i < byte_parts → P i) → ((k : ℕ) → i ≡ byte_parts + k → P (byte_parts + k)) → P i
by_part P i low high = on (ltb i byte_parts)
    (λ p. low (ltb-true i byte_parts p))
    (λ p. let q = ltb-false i byte_parts p in let e : i ≡ byte_parts + (i - byte_parts) = omega arith in rw e (high (i - byte_parts) e))

-- the bytes of a record's words: the parts that are a byte each, and those of the words from the k-th after them on
pub byte_first : (w : ℕ → ℕ) (i : ℕ) → i < byte_parts → record_byte w i ≡ w i
unfolding record_byte
byte_first w = headed-first w (byte_in (from w byte_parts))

pub byte_further : (w : ℕ → ℕ) (k i : ℕ) → record_byte w (byte_parts + (k * 4 + i)) ≡ byte_in (from w (byte_parts + k)) i
unfolding record_byte
byte_further w k i =
    headed-past w (byte_in (from w byte_parts)) (k * 4 + i)
    ∙ byte_in_from (from w byte_parts) k i
    ∙ ap (λ f. byte_in f i) (from_from w byte_parts k)

-- a record's parts by their places in the bytes around it
module _ (b : ℕ → ℕ) (a : ℕ) where
  word_first : (i : ℕ) → i < byte_parts → record_word (from b a) i ≡ from b a i
  unfolding record_word
  word_first = headed-first (from b a) (number_in (from (from b a) byte_parts))

  word_count : record_word (from b a) byte_parts ≡ number_of (from b (a + byte_parts))
  unfolding record_word
  word_count =
      headed-past (from b a) (number_in (from (from b a) byte_parts)) 0
      ∙ ap (λ w. number_in w 0) (from_from b a byte_parts)
      ∙ number_in_at b (a + byte_parts) 0
      ∙ ap (λ k. number_of (from b k)) (let e : a + byte_parts + 0 * 4 ≡ a + byte_parts = omega arith in e)

  word-further : (k : ℕ) → from (record_word (from b a)) (byte_parts + k) ≡ number_in (from b (a + (byte_parts + k * 4)))
  unfolding record_word
  word-further k =
      sym (from_from (record_word (from b a)) byte_parts k)
      ∙ ap (λ w. from w k) (headed-rest (from b a) (number_in (from (from b a) byte_parts)))
      ∙ number_in_from (from (from b a) byte_parts) k
      ∙ ap number_in (from_from (from b a) byte_parts (k * 4) ∙ from_from b a (byte_parts + k * 4))

pub record_from_parts : (n : ℕ) (b : ℕ → ℕ) (a : ℕ) → record_from n (from b a) ≡ record {
  member = b a;
  slot = b (a + 1);
  operation = b (a + 2);
  count = number_of (from b (a + byte_parts));
  value = value_of (number_in (from b (a + head_length)));
  matrix = matrix_of n (number_in (from b (a + (head_length + value_length))));
}
unfolding record_from record_of
record_from_parts n b a =
    rw (
      word_first b a 0 (omega arith) ∙ from_first b a,
      word_first b a 1 (omega arith) ∙ from_at b a 1,
      word_first b a 2 (omega arith) ∙ from_at b a 2,
      word_count b a,
      word-further b a 1,
      word-further b a 9,
    )

pub length-record_bytes : (n : ℕ) (r : Rec) → length (record_bytes n r) ≡ record_length n
unfolding record_bytes
length-record_bytes n r = length-tabulate (record_length n) (record_byte (words (record_words n r)))

pub record_from-same : (n : ℕ) (b c : ℕ → ℕ) → ((i : ℕ) → i < record_length n → b i ≡ c i) → record_from n b ≡ record_from n c
unfolding record_from record_word record_length record_size from
record_from-same n b c h = record_of-same n (record_word b) (record_word c) (λ i p. by_part (λ i. record_word b i ≡ record_word c i) i
    (λ q. headed-first b (number_in (from b byte_parts)) i q ∙ h i (omega arith) ∙ sym (headed-first c (number_in (from c byte_parts)) i q))
    (λ k e. headed-past b (number_in (from b byte_parts)) k
    ∙ number_in_same (from b byte_parts) (from c byte_parts) k (λ j q. h (byte_parts + (k * 4 + j)) (omega arith))
    ∙ sym (headed-past c (number_in (from c byte_parts)) k)))

module _ (n : ℕ) (r : Rec) (ok : small_record n r ≡ true) where
  values : Bool
  values = each 8 (λ i. ltb (r.value i) 4294967296)

  counts : Bool
  counts = each n (λ j. each n (λ k. ltb (r.matrix j k) 4294967296))

  parts : (ltb r.count 4294967296 ≡ true) × ((values ≡ true) × (counts ≡ true))
  unfolding small_record values counts
  parts =
      let rest = second (ltb r.count 4294967296) (values && counts) ok in
      (first (ltb r.count 4294967296) (values && counts) ok, (first values counts rest, second values counts rest))

  small_count : words (record_words n r) byte_parts < 4294967296
  small_count = rw (head_words n r byte_parts (omega arith)) (ltb-true r.count 4294967296 parts.0)

  small-value : (i : ℕ) → i < 8 → from (words (record_words n r)) 4 i < 4294967296
  unfolding values
  small-value i h =
      rw (value_words n r i h)
      (ltb-true (r.value (i + 1)) 4294967296
      (each_at 8 (λ i. ltb (r.value i) 4294967296) parts.1.0 (i + 1) (omega arith) (omega arith)))

  small-matrix : (i : ℕ) → i < n * n → from (words (record_words n r)) 12 i < 4294967296
  unfolding counts matrix_word
  small-matrix i h =
      let row : i / n < n = (div-lt_iff_lt-mul (square_pos n i h)).1 h in
      let column : i % n < n = mod-lt i (square_pos n i h) in
      let each_row = each_at n (λ j. each n (λ k. ltb (r.matrix j k) 4294967296)) parts.1.1 (i / n + 1) (omega arith) (omega arith) in
      rw (matrix_words n r i h)
      (ltb-true (r.matrix (i / n + 1) (i % n + 1)) 4294967296
      (each_at n (λ k. ltb (r.matrix (i / n + 1) k) 4294967296) each_row (i % n + 1) (omega arith) (omega arith)))

  record_small : (k : ℕ) → byte_parts + k < record_size n → words (record_words n r) (byte_parts + k) < 4294967296
  unfolding record_size from
  record_small k h = by_place 1 8 k
      (λ p. let e : k ≡ 0 = omega arith in rw e small_count)
      (λ p q. let e : byte_parts + k ≡ 4 + (k - 1) = omega arith in rw e (small-value (k - 1) (omega arith)))
      (λ p. let e : byte_parts + k ≡ 12 + (k - 9) = omega arith in rw e (small-matrix (k - 9) (omega arith)))

  -- a record's bytes read back as what the board has of it
  pub record_back : record_from n (words (record_bytes n r)) ≡ record_within n r
  unfolding record_bytes record_from record_byte record_word from
  record_back =
      record_from-same n (words (record_bytes n r)) (record_byte w) (tabulate-at (record_length n) (record_byte w))
      ∙ record_of-same n (record_word (record_byte w)) w (λ i p. by_part (λ i. record_word (record_byte w) i ≡ w i) i
      (λ q. headed-first (record_byte w) (number_in (from (record_byte w) byte_parts)) i q
      ∙ headed-first w (byte_in (from w byte_parts)) i q)
      (λ k e. headed-past (record_byte w) (number_in (from (record_byte w) byte_parts)) k
      ∙ ap (λ f. number_in f k) (headed-rest w (byte_in (from w byte_parts)))
      ∙ numbers_back (from w byte_parts) k (record_small k (omega arith))))
      ∙ record_of-words n r
    where
      w : ℕ → ℕ
      w = words (record_words n r)

-- a record that was read, written again
pub record_again : (n : ℕ) (b : ℕ → ℕ) → ((i : ℕ) → b i < 256) → record_bytes n (record_from n b) ≡ tabulate (record_length n) b
unfolding record_bytes record_from record_byte record_word record_length record_size from
record_again n b h =
    ap (λ l. tabulate (record_length n) (record_byte (words l))) (record_words_of n (record_word b))
    ∙ tabulate-same (record_length n) (record_byte w) b (λ i p. by_part (λ i. record_byte w i ≡ b i) i
    (λ q. headed-first w (byte_in (from w byte_parts)) i q ∙ read i (omega arith) ∙ headed-first b (number_in (from b byte_parts)) i q)
    (λ k e. headed-past w (byte_in (from w byte_parts)) k
    ∙ byte_in-same (from w byte_parts) (number_in (from b byte_parts)) k
    (read (byte_parts + k / 4) (omega arith) ∙ headed-past b (number_in (from b byte_parts)) (k / 4))
    ∙ run_back (from b byte_parts) (λ i. h (byte_parts + i)) k))
  where
    w : ℕ → ℕ
    w = words (tabulate (record_size n) (record_word b))

    read : (i : ℕ) → i < record_size n → w i ≡ record_word b i
    read = tabulate-at (record_size n) (record_word b)

-- Whole messages.

pub length-encode : (n : ℕ) (m : Message) → length (encode n m) ≡ 2 + length_of (kind_of m) n
unfolding encode framed field_bytes kind_of length_of number_bytes record_length
length-encode n (submit i r t count) = refl
length-encode n (reply newest stored) = simp (length-append, length-record_bytes) (omega arith)
length-encode n (commit r) = simp length-record_bytes (omega arith)
length-encode n (outcome o) = refl

pub length_of_least : (kind n : ℕ) → 3 ≤ length_of kind n
unfolding length_of
length_of_least kind n = on (eqb kind 1) (λ p. rw p (omega arith)) (λ p.
    on (eqb kind 2) (λ q. rw (p, q) (omega arith)) (λ q.
    on (eqb kind 3) (λ r. rw (p, q, r) (omega arith)) (λ r. rw (p, q, r) (omega arith))))

pub record_length-most : (n : ℕ) → n ≤ 12 → record_length n ≤ 615
unfolding record_length
record_length-most n h = omega (arith, square_small n h)

pub length_of_most : (kind n : ℕ) → n ≤ 12 → length_of kind n ≤ 1233
unfolding length_of
length_of_most kind n h =
    let s = record_length-most n h in
    on (eqb kind 1) (λ p. rw p (omega arith)) (λ p.
    on (eqb kind 2) (λ q. rw (p, q) (omega arith)) (λ q.
    on (eqb kind 3) (λ r. rw (p, q, r) (omega arith)) (λ r. rw (p, q, r) (omega arith))))

-- the length of a message whose kind is known
pub sized : (n : ℕ) (l : List ℕ) (k : ℕ) → length l ≡ 2 + length_of (words l 3) n → words l 3 ≡ k → length l ≡ 2 + length_of k n
sized n l k h e = h ∙ ap (λ k. 2 + length_of k n) e

-- Bytes that the reader takes.
pub record Readable (n : ℕ) (l : List ℕ) : Type 0 where
  pub low : 1 ≤ n
  pub high : n ≤ 12
  pub head : 4 ≤ length l
  pub field : words l 0 * 256 + words l 1 ≡ length l - 2
  pub version : words l 2 ≡ 1
  pub kind_low : 1 ≤ words l 3
  pub kind_high : words l 3 ≤ 4
  pub whole : length l ≡ 2 + length_of (words l 3) n
  pub right : right_n n (words l) ≡ true
  pub fit : fit_message n (message_from n (words l)) ≡ true

pub readable : (n : ℕ) (l : List ℕ) → read_number n l ≡ 0 → Readable n l
unfolding read_number
readable n l h =
    let b = words l in
    let p = no_failure (inside 12 n) (omega arith) h in
    let q = no_ground (ltb (length l) 4) (omega arith) p.1 in
    let r = no_failure (eqb (b 0 * 256 + b 1) (length l - 2)) (omega arith) q.1 in
    let s = no_failure (eqb (b 2) 1) (omega arith) r.1 in
    let t = no_failure (inside 4 (b 3)) (omega arith) s.1 in
    let fields : Bool = right_n n b && fit_message n (message_from n b) in
    let u = no_failure (eqb (length l - 2) (length_of (b 3) n) && fields) (omega arith) t.1 in
    let v = second (eqb (length l - 2) (length_of (b 3) n)) fields u.0 in
    let head : 4 ≤ length l = ltb-false (length l) 4 q.0 in
    let due = first (eqb (length l - 2) (length_of (b 3) n)) fields u.0 in
    let size : length l - 2 ≡ length_of (b 3) n = eqb-true (length l - 2) (length_of (b 3) n) due in
    record {
      low = inside_low 12 n p.0;
      high = inside_high 12 n p.0;
      head = head;
      field = eqb-true (b 0 * 256 + b 1) (length l - 2) r.0;
      version = eqb-true (b 2) 1 s.0;
      kind_low = inside_low 4 (b 3) t.0;
      kind_high = inside_high 4 (b 3) t.0;
      whole = omega arith;
      right = first (right_n n b) (fit_message n (message_from n b)) v;
      fit = second (right_n n b) (fit_message n (message_from n b)) v;
    }

-- What the length of a message is asked for: a kind, and n 1 to 12.
pub length-asked : {k n : ℕ} → inside 4 k ≡ true → inside 12 n ≡ true → (1 ≤ k) × ((k ≤ 4) × ((1 ≤ n) × (n ≤ 12)))
length-asked {k} {n} p q = (inside_low 4 k p, (inside_high 4 k p, (inside_low 12 n q, inside_high 12 n q)))

-- A message that the writer takes: n is 1 to 12, the fields fit, and there is room.
pub record Writable (n : ℕ) (m : Option Message) (room : ℕ) : Type 0 where
  pub size : inside 12 n ≡ true
  pub fit : fit_given n m ≡ true
  pub long : written_length n m ≤ room

pub writable_of : (n : ℕ) (m : Option Message) (room : ℕ) → write_number n m room ≡ 0 → Writable n m room
unfolding write_number
writable_of n m room h =
    let p = no_failure (inside 12 n) (omega arith) h in
    let q = no_failure (fit_given n m) (omega arith) p.1 in
    let r = no_ground (ltb room (written_length n m)) (omega arith) q.1 in
    record { size = p.0; fit = q.0; long = ltb-false room (written_length n m) r.0 }

-- member, slot and type that fit are bytes
pub fit_small : (n i r t : ℕ) → n ≤ 12 → (inside n i && inside n r && is_operation t) ≡ true → (i < 256) × ((r < 256) × (t < 256))
unfolding is_operation
fit_small n i r t h e =
    let p = first (inside n i && inside n r) (is_operation t) e in
    let a = inside_high n i (first (inside n i) (inside n r) p) in
    let b = inside_high n r (second (inside n i) (inside n r) p) in
    let q = second (inside n i && inside n r) (is_operation t) e in (
      omega arith,
      (
        omega arith,
        on (eqb t 1)
            (λ c. let d = eqb-true t 1 c in omega arith)
            (λ c. let d : t ≡ 2 = eqb-true t 2 (rw c at q) in omega arith),
      ),
    )

-- and the other way
pub taken : (n : ℕ) (l : List ℕ) → Readable n l → read_number n l ≡ 0
unfolding read_number
taken n l h =
    let size : length l - 2 ≡ length_of (words l 3) n = omega (arith, h.whole) in
    rw (
      inside_in 12 n h.low h.high,
      le-ltb (length l) 4 h.head,
      eq-eqb (words l 0 * 256 + words l 1) (length l - 2) h.field,
      eq-eqb (words l 2) 1 h.version,
      inside_in 4 (words l 3) h.kind_low h.kind_high,
      eq-eqb (length l - 2) (length_of (words l 3) n) size,
      h.right,
      h.fit,
    )

-- The message in bytes, by its kind.

pub by_kind : {B : Type 0} (k : ℕ) → (k ≡ 1 → B) → (k ≡ 2 → B) → (k ≡ 3 → B) → (k ≡ 4 → B)
    → ((k ≡ 1 → ⊥) → (k ≡ 2 → ⊥) → (k ≡ 3 → ⊥) → (k ≡ 4 → ⊥) → B) → B
by_kind k a b c d other =
    on (eqb k 1) (λ p. a (eqb-true k 1 p)) (λ p.
    on (eqb k 2) (λ q. b (eqb-true k 2 q)) (λ q.
    on (eqb k 3) (λ r. c (eqb-true k 3 r)) (λ r.
    on (eqb k 4) (λ s. d (eqb-true k 4 s)) (λ s.
    other (eqb-false k 1 p) (eqb-false k 2 q) (eqb-false k 3 r) (eqb-false k 4 s)))))

module _ (n : ℕ) (b : ℕ → ℕ) where
  pub from_submit : b 3 ≡ 1 → message_from n b ≡ submit (b fields_at) (b (fields_at + 1)) (b (fields_at + 2))
      (number_of (from b (fields_at + 3)))
  unfolding message_from
  from_submit e = rw e

  pub from_reply : b 3 ≡ 2 → message_from n b ≡ reply (record_from n (from b record_at))
      (record_from n (from b (record_at + record_length n)))
  unfolding message_from
  from_reply e = rw e

  pub from_commit : b 3 ≡ 3 → message_from n b ≡ commit (record_from n (from b record_at))
  unfolding message_from
  from_commit e = rw e

  pub from_outcome : b 3 ≡ 4 → message_from n b ≡ outcome (b fields_at)
  unfolding message_from
  from_outcome e = rw e

-- The reader's last question, by the kind.

-- the three fields of a record that stands at a
abbrev pub fit_at : ℕ → (ℕ → ℕ) → ℕ → Bool
fit_at n b a = inside n (b a) && inside n (b (a + 1)) && is_operation (b (a + 2))

fit_record_lem : (n : ℕ) (b : ℕ → ℕ) (a : ℕ) → fit_record n (record_from n (from b a)) ≡ fit_at n b a
unfolding fit_record
fit_record_lem n b a = rw (record_from_parts n b a)

abbrev pub judged : ℕ → (ℕ → ℕ) → Bool
judged n b = right_n n b && fit_message n (message_from n b)

module _ (n : ℕ) (b : ℕ → ℕ) where
  pub judged_submit : b 3 ≡ 1 → judged n b ≡ fit_at n b fields_at
  unfolding right_n fit_message
  judged_submit e = rw (from_submit n b e, e)

  pub judged_outcome : b 3 ≡ 4 → judged n b ≡ inside 2 (b fields_at)
  unfolding right_n fit_message
  judged_outcome e = rw (from_outcome n b e, e)

  pub judged_commit : b 3 ≡ 3 → b fields_at ≡ n → judged n b ≡ fit_at n b record_at
  unfolding right_n fit_message
  judged_commit e d = rw (from_commit n b e, e, eq-eqb (b fields_at) n d) (fit_record_lem n b record_at)

  pub judged_reply : b 3 ≡ 2 → b fields_at ≡ n → judged n b ≡ (fit_at n b record_at && fit_at n b (record_at + record_length n))
  unfolding right_n fit_message
  judged_reply e d = rw (
    from_reply n b e,
    e,
    eq-eqb (b fields_at) n d,
    fit_record_lem n b record_at,
    fit_record_lem n b (record_at + record_length n),
  )

  pub judged_misnamed : 1 < b 3 → b 3 < 4 → (b fields_at ≡ n → ⊥) → judged n b ≡ false
  unfolding right_n
  judged_misnamed p q d = on (eqb (b 3) 2)
      (λ e. rw (e, ne_eqb (b fields_at) n d))
      (λ e. let f = eqb-false (b 3) 2 e in rw (e, eq-eqb (b 3) 3 (omega arith), ne_eqb (b fields_at) n d))

-- The bytes of a message: five that every kind has, then the rest of its fields.

abbrev pub heading : ℕ → ℕ → ℕ → List ℕ
heading size kind x = size / 256 ∷ size % 256 ∷ 1 ∷ kind ∷ x ∷ []

pub encode_parts : (n : ℕ) (m : Message)
    → encode n m ≡ length_of (kind_of m) n / 256 ∷ length_of (kind_of m) n % 256 ∷ 1 ∷ kind_of m ∷ field_bytes n m
unfolding encode framed
encode_parts n m =
    let e : length (1 ∷ kind_of m ∷ field_bytes n m) ≡ length_of (kind_of m) n = omega (arith, length-encode n m) in
    ap (λ k. k / 256 ∷ k % 256 ∷ 1 ∷ kind_of m ∷ field_bytes n m) e

module _ (n : ℕ) where
  pub submit_parts : (i r t count : ℕ) → encode n (submit i r t count) ≡ heading 9 1 i ++ (r ∷ t ∷ number_bytes count)
  unfolding kind_of length_of field_bytes
  submit_parts i r t count = encode_parts n (submit i r t count)

  pub reply_parts : (newest stored : Rec)
      → encode n (reply newest stored) ≡ heading (length_of 2 n) 2 n ++ (record_bytes n newest ++ record_bytes n stored)
  unfolding kind_of field_bytes
  reply_parts newest stored = encode_parts n (reply newest stored)

  pub commit_parts : (r : Rec) → encode n (commit r) ≡ heading (length_of 3 n) 3 n ++ record_bytes n r
  unfolding kind_of field_bytes
  commit_parts r = encode_parts n (commit r)

  pub outcome_parts : (o : ℕ) → encode n (outcome o) ≡ heading 3 4 o
  unfolding kind_of length_of field_bytes
  outcome_parts o = encode_parts n (outcome o)

-- A message written is read back.

-- two records one after the other
second_record : (n : ℕ) (p : List ℕ) (q : Rec) (l : List ℕ)
    → from (words (p ++ (record_bytes n q ++ l))) (length p + record_length n) ≡ words l
second_record n p q l =
    sym (from_from (words (p ++ (record_bytes n q ++ l))) (length p) (record_length n))
    ∙ ap (λ w. from w (record_length n)) (from_append p (record_bytes n q ++ l))
    ∙ ap (from (words (record_bytes n q ++ l))) (sym (length-record_bytes n q))
    ∙ from_append (record_bytes n q) l

first_record : (n : ℕ) (p : List ℕ) (q : Rec) (l : List ℕ)
    → record_from n (from (words (p ++ (record_bytes n q ++ l))) (length p)) ≡ record_from n (words (record_bytes n q))
first_record n p q l =
    ap (record_from n) (from_append p (record_bytes n q ++ l))
    ∙ record_from-same n (words (record_bytes n q ++ l)) (words (record_bytes n q))
    (λ i h. get_or-append (record_bytes n q) l 0 i (rw length-record_bytes h))

message_back : (n : ℕ) (m : Message) → small n m ≡ true → message_from n (words (encode n m)) ≡ message_within n m
unfolding message_within small
message_back n (submit i r t count) h =
    rw (submit_parts n i r t count)
    (from_submit n (words (heading 9 1 i ++ (r ∷ t ∷ number_bytes count))) refl
    ∙ ap (λ w. submit i r t (number_of w)) (from_append (heading 9 1 i ++ (r ∷ t ∷ [])) (number_bytes count))
    ∙ ap (submit i r t) (number_back count (ltb-true count 4294967296 h)))
message_back n (reply newest stored) h =
    let p = heading (length_of 2 n) 2 n in
    rw (reply_parts n newest stored)
    (from_reply n (words (p ++ (record_bytes n newest ++ record_bytes n stored))) refl
    ∙ rw (
      first_record n p newest (record_bytes n stored),
      second_record n p newest (record_bytes n stored),
      record_back n newest (first (small_record n newest) (small_record n stored) h),
      record_back n stored (second (small_record n newest) (small_record n stored) h),
    ))
message_back n (commit r) h =
    rw (commit_parts n r)
    (from_commit n (words (heading (length_of 3 n) 3 n ++ record_bytes n r)) refl
    ∙ ap (λ w. commit (record_from n w)) (from_append (heading (length_of 3 n) 3 n) (record_bytes n r))
    ∙ ap commit (record_back n r h))
message_back n (outcome o) h = rw (outcome_parts n o) (from_outcome n (words (heading 3 4 o)) refl)

-- what a board has of a message fits as the message does
fit_within : (n : ℕ) (m : Message) → fit_message n (message_within n m) ≡ fit_message n m
unfolding fit_message message_within fit_record record_within
fit_within n (submit i r t count) = refl
fit_within n (reply newest stored) = refl
fit_within n (commit r) = refl
fit_within n (outcome o) = refl

kind_inside : (m : Message) → inside 4 (kind_of m) ≡ true
unfolding kind_of inside
kind_inside (submit i r t count) = refl
kind_inside (reply newest stored) = refl
kind_inside (commit r) = refl
kind_inside (outcome o) = refl

right_written : (n : ℕ) (m : Message) → right_n n (words (encode n m)) ≡ true
unfolding right_n encode framed kind_of field_bytes
right_written n (submit i r t count) = refl
right_written n (reply newest stored) = eq-eqb n n refl
right_written n (commit r) = eq-eqb n n refl
right_written n (outcome o) = refl

written_readable : (n : ℕ) (m : Message) → 1 ≤ n → n ≤ 12 → fits n m ≡ true → Readable n (encode n m)
unfolding encode framed fits
written_readable n m low high h = record {
  low = low;
  high = high;
  head = omega arith;
  field = omega arith;
  version = refl;
  kind_low = inside_low 4 (kind_of m) (kind_inside m);
  kind_high = inside_high 4 (kind_of m) (kind_inside m);
  whole = length-encode n m;
  right = right_written n m;
  fit =
      ap (fit_message n) (message_back n m (second (fit_message n m) (small n m) h))
      ∙ fit_within n m
      ∙ first (fit_message n m) (small n m) h;
}

-- THE FIRST ROUND TRIP: a message that fits, written, reads back as what the board has of it.
pub read_back_lem : (n : ℕ) (m : Message) → 1 ≤ n → n ≤ 12 → fits n m ≡ true → decode n (encode n m) ≡ some (message_within n m)
unfolding decode fits
read_back_lem n m low high h =
    rw (taken n (encode n m) (written_readable n m low high h))
    (ap some (message_back n m (second (fit_message n m) (small n m) h)))

-- Bytes that were read, written again.

-- a reply and a commit name n
named : (n : ℕ) (b : ℕ → ℕ) (k : ℕ) → (eqb k 2 || eqb k 3) ≡ true → b 3 ≡ k → right_n n b ≡ true → b fields_at ≡ n
unfolding right_n
named n b k t e h = eqb-true (b fields_at) n (rw (e, t) at h)

module _ (n : ℕ) (l : List ℕ) (whole : Bytes l) (h : Readable n l) where
  b : ℕ → ℕ
  b = words l

  -- enough: the kind, and the bytes after it
  same_bytes : (m : Message) (k : ℕ) → b 3 ≡ k → kind_of m ≡ k
      → (size : ℕ) → length_of k n ≡ 2 + size → field_bytes n m ≡ tabulate size (from b fields_at) → encode n m ≡ l
  unfolding encode framed b tabulate from
  same_bytes m k e c size d f =
      (λ i. high i ∷ low i ∷ sym h.version i ∷ (c ∙ sym e) i ∷ f i)
      ∙ sym (tabulate-append 4 size b)
      ∙ ap (λ k. tabulate k b) (let s : 4 + size ≡ length l = omega (arith, long) in s)
      ∙ tabulate-words l
    where
      long : length l ≡ 2 + length_of k n
      long = h.whole ∙ ap (λ k. 2 + length_of k n) e

      rest : length (field_bytes n m) ≡ size
      rest = ap length f ∙ length-tabulate size (from b fields_at)

      high : length (1 ∷ kind_of m ∷ field_bytes n m) / 256 ≡ b 0
      high = omega (arith, long, rest, h.field, whole 1)

      low : length (1 ∷ kind_of m ∷ field_bytes n m) % 256 ≡ b 1
      low = omega (arith, long, rest, h.field, whole 1)

  submit-again : b 3 ≡ 1 → encode n (message_from n b) ≡ l
  unfolding b kind_of length_of field_bytes tabulate from number_bytes
  submit-again e =
      ap (encode n) (from_submit n b e)
      ∙ same_bytes (submit (b 4) (b 5) (b 6) (number_of (from b 7))) 1 e refl 7 refl
      (λ i. b 4 ∷ b 5 ∷ b 6 ∷ back 0 (omega arith) i ∷ back 1 (omega arith) i ∷ back 2 (omega arith) i ∷ back 3 (omega arith) i ∷ [])
    where
      back : (k : ℕ) → k < 4 → words (number_bytes (number_of (from b 7))) k ≡ from b 7 k
      back = bytes_back (from b 7) (λ i. whole (7 + i))

  record-part : (a : ℕ) → record_bytes n (record_from n (from b a)) ≡ tabulate (record_length n) (from b a)
  unfolding b from
  record-part a = record_again n (from b a) (λ i. whole (a + i))

  named-part : (k : ℕ) → (eqb k 2 || eqb k 3) ≡ true → b 3 ≡ k → (size : ℕ) (rest : List ℕ) → rest ≡ tabulate size (from b record_at)
      → n ∷ rest ≡ tabulate (1 + size) (from b fields_at)
  unfolding b tabulate from
  named-part k t e size rest f =
      (λ i. sym (named n b k t e h.right) i ∷ f i)
      ∙ ap (λ w. b 4 ∷ tabulate size w) (sym (from_from b fields_at 1))
      ∙ sym (tabulate-append 1 size (from b fields_at))

  reply-again : b 3 ≡ 2 → encode n (message_from n b) ≡ l
  unfolding kind_of length_of record_length field_bytes
  reply-again e =
      let k = record_length n in
      let newest = record_from n (from b record_at) in
      let stored = record_from n (from b (record_at + k)) in
      ap (encode n) (from_reply n b e)
      ∙ same_bytes (reply newest stored) 2 e refl (1 + (k + k)) (omega arith)
      (named-part 2 refl e (k + k) (record_bytes n newest ++ record_bytes n stored)
      ((λ i. record-part record_at i ++ record-part (record_at + k) i)
      ∙ ap (λ w. tabulate k (from b record_at) ++ tabulate k w) (sym (from_from b record_at k))
      ∙ sym (tabulate-append k k (from b record_at))))

  commit-again : b 3 ≡ 3 → encode n (message_from n b) ≡ l
  unfolding kind_of length_of record_length field_bytes
  commit-again e =
      ap (encode n) (from_commit n b e)
      ∙ same_bytes (commit (record_from n (from b record_at))) 3 e refl (1 + record_length n) (omega arith)
      (named-part 3 refl e (record_length n) (record_bytes n (record_from n (from b record_at))) (record-part record_at))

  outcome-again : b 3 ≡ 4 → encode n (message_from n b) ≡ l
  unfolding b kind_of length_of field_bytes tabulate from
  outcome-again e = ap (encode n) (from_outcome n b e) ∙ same_bytes (outcome (b 4)) 4 e refl 1 refl refl

  pub again : encode n (message_from n (words l)) ≡ l
  unfolding b
  again = by_kind (b 3) submit-again reply-again commit-again outcome-again (λ p q r s. absurd (omega (arith, h.kind_low, h.kind_high)))

-- what was read is the message in bytes that the reader takes
pub decoded : (n : ℕ) (l : List ℕ) (m : Message) → decode n l ≡ some m → (read_number n l ≡ 0) × (message_from n (words l) ≡ m)
unfolding decode
decoded n l m h = on (eqb (read_number n l) 0)
    (λ e. let q : some (message_from n (words l)) ≡ some m = rw e at h in (eqb-true (read_number n l) 0 e, cc))
    (λ e. let q : ◌≡◌ {A = Option Message} none (some m) = rw e at h in
    let z : ◌≡◌ {A = ℕ} 0 1 = cc in
    absurd (omega arith))

-- THE SECOND ROUND TRIP: bytes that were accepted, written again, are the same bytes.
pub written_again : (n : ℕ) (l : List ℕ) (m : Message) → Bytes l → decode n l ≡ some m → encode n m ≡ l
written_again n l m whole h =
    let d = decoded n l m h in
    ap (encode n) (sym d.1) ∙ again n l whole (readable n l d.0)
