-- CONCUR as published: document 000, Algorithm 1, Fig. 1, Algorithm 3 (client i) and Algorithm 5 (server), line by line and in the
-- paper's names, so that the definitions of the other files are not their own witness. PublishedClaims.antt says how the two are tied.
--
-- Each line is a definition named by its number: line38 is line 3.8. An operation (Definition 17) is a record, whose matrix is its tsm.
-- Signatures are left out: whether they verify is an argument of 3.7. The order on vectors and on operations (Definitions 6, 7, 18) is
-- that of Rows.antt. Where document 01 has another line, a comment "Document 01 differs" says so, and its line stands beside the
-- printed one; at 5.12 it is document 02's, request (a). Phases, halt numbers, number 9 and crash marks are document 01's additions.
use Rattle.std.specs.Prelude.{ℕ, ◌+◌, Bool, false, cond, not, ◌&&◌, ◌||◌, List, [], ◌∷◌, eqb, leb}
use Rattle.std.proofs.Math.Option.{Option, none, some}
use Rattle.lists.specs.Functions.{put, each}
use Rattle.model.specs.Rows.{Matrix, below, matrix_below, comparable, zero_matrix}
use Rattle.model.specs.Records.{Value, Rec, read, write, zero_value, opening}

-- op.id = (client_id, op_cnt, type, reg)
pub record Id : Type 0 where
  pub client : ℕ
  pub count : ℕ
  pub operation : ℕ
  pub reg : ℕ

unfoldable pub id_of : Rec → Id
id_of op = record { client = op.member; count = op.count; operation = op.operation; reg = op.slot }

unfoldable pub same_id : Id → Id → Bool
same_id a b =
    eqb a.client b.client && (eqb a.count b.count && (eqb a.operation b.operation && eqb a.reg b.reg))

-- an id under another type
unfoldable pub with_type : ℕ → Id → Id
with_type t id = record { client = id.client; count = id.count; operation = t; reg = id.reg }

-- Algorithm 1, client i: the rw_operations that it may call, by type and register
pub data Called (i : ℕ) : ℕ → ℕ → Type 0 where
  -- Read(j) do rw_operation(READ, ⊥, j): any register, its own too. Section 4.2 says so ("may read from any register"); section 3 speaks
  -- of "all other registers", and document 02, (a), follows 4.2.
  reads : (j : ℕ) → Called i read j
  -- Write(v) do rw_operation(WRITE, v, i)
  writes : Called i write i

-- Fig. 1: op_cnt[1..n], ts_suc[1..n], value_suc, op.value and tsm_comp, what an operation of a client finds from the one before. The
-- rest of op, and abort and retval, each operation sets anew.
pub record Client : Type 0 where
  pub op_cnt : ℕ → ℕ
  pub ts_suc : ℕ → ℕ
  pub value_suc : Value
  pub op_value : Value
  pub tsm_comp : Matrix

unfoldable pub client_opened : Client
client_opened = record {
  op_cnt = λ r. 0;
  ts_suc = λ r. 0;
  value_suc = zero_value;
  op_value = zero_value;
  tsm_comp = zero_matrix;
}

-- Algorithm 3, client i of n.

-- 3.1 rw_operation(TYPE, value, r) do
-- 3.2 abort ← false
-- 3.3 op_cnt[r] ← op_cnt[r] + 1
unfoldable pub line33 : ℕ → Client → Client
line33 r c = record {
  op_cnt = put c.op_cnt r (c.op_cnt r + 1);
  ts_suc = c.ts_suc;
  value_suc = c.value_suc;
  op_value = c.op_value;
  tsm_comp = c.tsm_comp;
}

-- 3.4 op.id ← (i, op_cnt[r], TYPE, r)
-- 3.5 send (SUBMIT, op.id) to server
unfoldable pub line34 : ℕ → ℕ → ℕ → Client → Id
line34 i t r c = record { client = i; count = c.op_cnt r; operation = t; reg = r }

-- 3.6 wait for message (SUBMIT_R, x_op, lso)
-- 3.7 if not verify(lso.sig) ∧ verify(x_op.sig) then halt
unfoldable pub line37 : Bool → Bool → Bool
line37 lso_verified x_op_verified = lso_verified && x_op_verified

-- 3.8 if not ∀ k ≠ i : tsm_comp^r[k] ≤ lso.tsm^r[k] ∧ ts_suc[r] = lso.tsm^r[i] then halt
-- (document 01 has a number for each part)
unfoldable pub line38others : ℕ → ℕ → ℕ → Client → Rec → Bool
line38others n i r c lso = each n (λ k. eqb k i || leb (c.tsm_comp r k) (lso.matrix r k))

unfoldable pub line38own : ℕ → ℕ → Client → Rec → Bool
line38own i r c lso = eqb (c.ts_suc r) (lso.matrix r i)

unfoldable pub line38 : ℕ → ℕ → ℕ → Client → Rec → Bool
line38 n i r c lso = line38others n i r c lso && line38own i r c lso

-- 3.9 if not x_op.id.client_id = r then halt
unfoldable pub line39 : ℕ → Rec → Bool
line39 r x_op = eqb (id_of x_op).client r

-- 3.10 if not x_op ≤ lso ∧ lso.tsm^r[r] = x_op.tsm^r[r] then halt
unfoldable pub line310 : ℕ → ℕ → Rec → Rec → Bool
line310 n r x_op lso = matrix_below n x_op.matrix lso.matrix && eqb (lso.matrix r r) (x_op.matrix r r)

-- 3.11 forall k = 1..n, k ≠ r do
-- 3.12 if not tsm_comp^k, lso.tsm^k are comparable then halt
unfoldable pub line312 : ℕ → ℕ → Client → Rec → Bool
line312 n r c lso = each n (λ k. eqb k r || comparable n (c.tsm_comp k) (lso.matrix k))

-- Document 01 differs: amendment 2 adds a check after 3.12, its number 27, "in another row, the newest record's entry for m exceeds m's
-- accepted count there".
unfoldable pub line312added : ℕ → ℕ → ℕ → Client → Rec → Bool
line312added n i r c lso = each n (λ k. eqb k r || leb (lso.matrix k i) (c.ts_suc k))

-- 3.13 op.tsm^k ← max{tsm_comp^k, lso.tsm^k}: of two comparable vectors, the one that the other is below
unfoldable pub line313 : ℕ → Client → Rec → Matrix
line313 n c lso k = cond (below n (c.tsm_comp k) (lso.matrix k)) (lso.matrix k) (c.tsm_comp k)

-- 3.14 op.tsm^r ← lso.tsm^r
unfoldable pub line314 : ℕ → Rec → Matrix → Matrix
line314 r lso tsm = put tsm r (lso.matrix r)

-- 3.15 op.tsm^r[i] ← op_cnt[r]
unfoldable pub line315 : ℕ → ℕ → Client → Matrix → Matrix
line315 i r c tsm = put tsm r (put (tsm r) i (c.op_cnt r))

-- 3.16 if TYPE = WRITE then op.value ← value
unfoldable pub line316 : ℕ → Value → Client → Client
line316 t value c = record {
  op_cnt = c.op_cnt;
  ts_suc = c.ts_suc;
  value_suc = c.value_suc;
  op_value = cond (eqb t write) value c.op_value;
  tsm_comp = c.tsm_comp;
}

-- 3.17 sig ← sign(op.id||op.value||op.tsm)
-- 3.18 op.sig ← sig
-- 3.19 send (COMMIT, op) to server
unfoldable pub line319 : Id → Matrix → Client → Rec
line319 id tsm c = record {
  member = id.client;
  slot = id.reg;
  operation = id.operation;
  count = id.count;
  value = c.op_value;
  matrix = tsm;
}

-- the COMMIT's op: 3.4, 3.13 to 3.15 and 3.19, after 3.16
unfoldable pub op_of : ℕ → ℕ → ℕ → ℕ → Client → Rec → Rec
op_of n i t r c lso = line319 (line34 i t r c) (line315 i r c (line314 r lso (line313 n c lso))) c

-- 3.20 wait for message (COMMIT_R, ret_type)
-- 3.21 tsm_comp ← op.tsm
unfoldable pub line321 : Rec → Client → Client
line321 op c = record {
  op_cnt = c.op_cnt;
  ts_suc = c.ts_suc;
  value_suc = c.value_suc;
  op_value = c.op_value;
  tsm_comp = op.matrix;
}

-- 3.22 if ret_type = ABORT then
-- 3.23 op.value ← value_suc
-- 3.24 abort ← true
unfoldable pub line323 : Client → Client
line323 c = record {
  op_cnt = c.op_cnt;
  ts_suc = c.ts_suc;
  value_suc = c.value_suc;
  op_value = c.value_suc;
  tsm_comp = c.tsm_comp;
}

-- 3.25 else
-- 3.26 ts_suc[r] ← op_cnt[r]
unfoldable pub line326 : ℕ → Client → Client
line326 r c = record {
  op_cnt = c.op_cnt;
  ts_suc = put c.ts_suc r (c.op_cnt r);
  value_suc = c.value_suc;
  op_value = c.op_value;
  tsm_comp = c.tsm_comp;
}

-- 3.27 value_suc ← op.value
unfoldable pub line327 : Client → Client
line327 c = record {
  op_cnt = c.op_cnt;
  ts_suc = c.ts_suc;
  value_suc = c.op_value;
  op_value = c.op_value;
  tsm_comp = c.tsm_comp;
}

-- Document 01 differs: "for a write the last own sheet the pending one". In words only: a read carries value_suc as op.value, so that
-- the printed line leaves it as it is.
unfoldable pub line327writes : ℕ → Client → Client
line327writes t c = cond (eqb t write) (line327 c) c

-- 3.28 if TYPE = READ then retval ← x_op.value (Algorithm 1: "return retval" for a read, "return OK" for a write)
unfoldable pub line328 : ℕ → Rec → Option Value
line328 t x_op = cond (eqb t read) (some x_op.value) none

-- after OK: 3.21, 3.26, 3.27, as printed and with document 01's 3.27
unfoldable pub after_ok : ℕ → Rec → Client → Client
after_ok r op c = line327 (line326 r (line321 op c))

unfoldable pub after_ok_writes : ℕ → ℕ → Rec → Client → Client
after_ok_writes t r op c = line327writes t (line326 r (line321 op c))

-- after ABORT: 3.21, 3.23
unfoldable pub after_abort : Rec → Client → Client
after_abort op c = line323 (line321 op c)

-- Document 01 differs: amendment 1, "its line 3.21 takes over the matrix of an aborted operation too, which makes check 26 fail with an
-- honest host (case P7); here only accepted ones are taken over".
unfoldable pub after_abort_amended : Client → Client
after_abort_amended c = line323 c

-- Algorithm 5, the server.

-- 5.1 Pnd[1..n] array of set of operation ids
-- 5.2 Abrt[1..n] array of set of operation ids /* pending ops to be aborted */
-- and section 4's X[1..n] and lso[1..n]. A set is its test.
pub record Server : Type 0 where
  pub pnd : ℕ → Id → Bool
  pub abrt : ℕ → Id → Bool
  pub x : ℕ → Rec
  pub lso : ℕ → Rec

-- no operation is pending, and X and lso hold document 01's opening records
unfoldable pub server_opened : Server
server_opened = record { pnd = λ r id. false; abrt = λ r id. false; x = opening; lso = opening }

-- the messages (SUBMIT, id) and (COMMIT, op), and the answers (SUBMIT_R, x_op, lso) and (COMMIT_R, ret_type), true for OK
pub data ToServer : Type 0 where
  submit : Id → ToServer
  commit : Rec → ToServer

pub data FromServer : Type 0 where
  submit_r : Rec → Rec → FromServer
  commit_r : Bool → FromServer

-- 5.3 upon receiving message (SUBMIT, id) from client i do
-- 5.4 Abrt[id.reg] ← Pnd[id.reg]
unfoldable pub line54 : Id → Server → Server
line54 id s = record { pnd = s.pnd; abrt = put s.abrt id.reg (s.pnd id.reg); x = s.x; lso = s.lso }

-- Document 01 differs: "the host notes (member, own count) as newest submit of the slot". This mark is an id without its type: 0 is none.
unfoldable pub mark : Id → Id
mark id = with_type 0 id

-- So a submit that comes again, under either type, is no other operation, and does not abort its own. As printed it does. No member
-- sends one again.
unfoldable pub line54noted : Id → Server → Server
line54noted id s = record {
  pnd = s.pnd;
  abrt = put s.abrt id.reg (λ other. s.pnd id.reg other && not (same_id other id));
  x = s.x;
  lso = s.lso;
}

-- 5.5 Pnd[id.reg] ← Pnd[id.reg] ∪ {id}
unfoldable pub line55 : Id → Server → Server
line55 id s = record {
  pnd = put s.pnd id.reg (λ other. s.pnd id.reg other || same_id other id);
  abrt = s.abrt;
  x = s.x;
  lso = s.lso;
}

-- 5.6 send (SUBMIT_R, X[id.reg], lso[id.reg]) to client i
unfoldable pub line56 : Id → Server → FromServer
line56 id s = submit_r (s.x id.reg) (s.lso id.reg)

-- 5.7 upon receiving message (COMMIT, op) from client i do
-- 5.8 Pnd[op.id.reg] ← Pnd[op.id.reg] \ {op.id}
unfoldable pub line58 : Id → Server → Server
line58 id s = record {
  pnd = put s.pnd id.reg (λ other. s.pnd id.reg other && not (same_id other id));
  abrt = s.abrt;
  x = s.x;
  lso = s.lso;
}

-- 5.9 if op.id ∈ Abrt[op.id.reg] then
unfoldable pub line59 : Id → Server → Bool
line59 id s = s.abrt id.reg id

-- Document 01 differs: accepted "if the newest submit is this member and own count .. Otherwise phase 5 and the host is unchanged". A
-- commit that was never submitted, or that comes again, is in no Abrt, so that the printed line accepts it; the host half aborts it:
-- here if it was not in Pnd before 5.8. HostClaims.antt has the difference, and that there is none where each commit follows its own
-- submit once.
unfoldable pub line59noted : Id → Server → Bool
line59noted id s = s.abrt id.reg id || not (s.pnd id.reg id)

-- 5.10 send (COMMIT_R, ABORT) to client i
-- 5.11 else
-- 5.12 X[i] ← op
unfoldable pub line512 : Rec → Server → Server
line512 op s = record { pnd = s.pnd; abrt = s.abrt; x = put s.x (id_of op).client op; lso = s.lso }

-- Document 02, (a), differs, the third amendment: "An accepted operation by the slot's owner, read or write, becomes the stored record."
-- That is the printed line on the client's own register. On another's the printed line is wrong: the read takes the place of what the
-- client last did on its own register, and the next reader of that halts at 3.10 though the server is honest: n = 2, client 2 reads
-- register 1, then client 1 reads register 2 (`line512-halts`).
unfoldable pub line512owner : Rec → Server → Server
line512owner op s = record {
  pnd = s.pnd;
  abrt = s.abrt;
  x = cond (eqb (id_of op).client (id_of op).reg) (put s.x (id_of op).reg op) s.x;
  lso = s.lso;
}

-- Document 01's line, "for a write also the stored one", was right while no client read its own register. With own reads it is not: the
-- next client on that register halts at 3.10 (`writes-alone-halts`).
unfoldable pub line512writes : Rec → Server → Server
line512writes op s = record {
  pnd = s.pnd;
  abrt = s.abrt;
  x = cond (eqb op.operation write) (put s.x (id_of op).reg op) s.x;
  lso = s.lso;
}

-- 5.13 lso[op.id.reg] ← op
-- 5.14 send (COMMIT_R, OK) to client i
unfoldable pub line513 : Rec → Server → Server
line513 op s = record { pnd = s.pnd; abrt = s.abrt; x = s.x; lso = put s.lso (id_of op).reg op }

-- The server after a message, and its answer. What stands at 5.12, the printed line or another, is an argument.
unfoldable pub received : (Rec → Server → Server) → ToServer → Server → Server
received store (submit id) s = line55 id (line54 id s)
received store (commit op) s =
    let t = line58 (id_of op) s in
    cond (line59 (id_of op) t) t (line513 op (store op t))

unfoldable pub answer_to : ToServer → Server → FromServer
answer_to (submit id) s = line56 id s
answer_to (commit op) s = commit_r (not (line59 (id_of op) s))

unfoldable pub server_answers : (Rec → Server → Server) → Server → List ToServer → List FromServer
server_answers store s [] = []
server_answers store s (message ∷ messages) =
    answer_to message s ∷ server_answers store (received store message s) messages
