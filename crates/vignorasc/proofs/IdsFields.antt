-- A call that stores fields of the lent `Ids`, where the callee gives those that it may change, and the answer: `lent`'s `Store.antt`, at `Left`.
-- Assumes nothing.
use Rattle.std.specs.Prelude.{◌≡◌, List}
use Rattle.lent.specs.Kind.{Kind, Sort, kind, Fields, Part, Args}
use Rattle.lent.specs.Change.{Call, Theorem}
use Rattle.lent.specs.Store.{Move, fields, left, code, stores_by}
use Rattle.ids.specs.Acts.{Left}
use Rattle.ids_state.specs.declared.state.Ids.{Ids}
use Rattle.vignorasc.proofs.Sorts.{ids}

module _ (Ps : List Kind) (A : Sort) (R : Kind) (answer : Part A R) (ms : List (Move ids A)) (stored : Ids → A.T.D → Ids) {O : Type 0} (answered : Ids → Args Ps → O) (gives : O → R.D) (leaves : O → Ids)
    (Ends : Ids → Args Ps → R.D → Ids → Type 0) (ends : (h : Ids) (x : Args Ps) (r : R.D) (u : Ids) → r ≡ gives (answered h x) → u ≡ leaves (answered h x) → Ends h x r u) where
  abbrev fields_call : Call
  fields_call = record {
    S = ids;
    Ps = Ps;
    A = A;
    R = R;
    answer = answer;
    stored = stored;
    Says = λ h x r. Left (stored h r) (leaves (answered h x)) (answer.get r) (gives (answered h x));
    Ends = Ends;
    ends = λ h x r e. ends h x (answer.get r) (stored h r) e.answer e.state;
  }

  pub stores_fields : ((h : Ids) (r : A.T.D) → left ids A (fields ms) h r ≡ (kind ids).val (stored h r)) → ((h : Ids) (r : A.T.D) → Fields ids h → Fields A r → Fields ids (stored h r)) → Theorem fields_call (code fields_call (fields ms))
  stores_fields = stores_by fields_call (fields ms)
