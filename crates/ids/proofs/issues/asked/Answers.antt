-- The tests are the definition's; a source sequence is below next, so the one after the lowest fits.
use Rattle.std.specs.Prelude.{◌≡◌, refl, ℕ, List, true, false, Option as Optional}
use Rattle.std.proofs.Common.{sym, ap, not, ◌∙◌, arith, lt-ltb, le-ltb, le-leb}
use Rattle.std.proofs.Math.Option.{none}
use Rattle.std.proofs.lemmas.Bool.{lt-leb}
use Rattle.lists.specs.Defs.{least, optional, picked}
use Rattle.lists.specs.Search.{optional_some, optional_none}
use Rattle.ids_state.specs.declared.state.Ids.{Ids}
use Rattle.tables.specs.declared.items.Item as I
use Rattle.ids.specs.IssueLaws.{lowest_below, add_is}
use Rattle.ids_state.proofs.Laws.{facts}
use Rattle.tables.specs.Table.{live}
use Rattle.tables.specs.Table as T
use Rattle.ids.proofs.issues.asked.Goals as goal

-- what the search for the lowest answered, of the state's table
low : (s : Ids) (l : List I.Item) → l ≡ live s.scids → (r : Optional ℕ) → r ≡ optional (least (picked T.seq_of (T.at_least s.retire_prior_to) l))
    → optional (least (picked T.seq_of (T.at_least s.retire_prior_to) (live s.scids))) ≡ r
low s l e r q = sym (q ∙ ap (λ (k : List I.Item). optional (least (picked T.seq_of (T.at_least s.retire_prior_to) k))) e)

pub returns-then-s : goal.returns-then-s
returns-then-s c = λ cid token advertise path. add_is c.args.f.ids.now c.args.f.well cid token advertise path c.args.retire_if_needed true _ _ _ _ c.if-s.true refl refl refl refl

pub returns-then-s-ge-MAX_SEQUENCE : goal.returns-then-s-ge-MAX_SEQUENCE
returns-then-s-ge-MAX_SEQUENCE c = λ cid token advertise path. add_is c.args.f.ids.now c.args.f.well cid token advertise path c.args.retire_if_needed false true _ _ _ c.if-s.false (le-leb _ _ c.if-s-ge-MAX_SEQUENCE.true) refl refl refl

pub returns-then-count-s : goal.returns-then-count-s
returns-then-count-s c = λ cid token advertise path. add_is c.args.f.ids.now c.args.f.well cid token advertise path c.args.retire_if_needed false false true _ _ c.if-s.false (lt-leb _ _ c.if-s-ge-MAX_SEQUENCE.false) (lt-ltb _ _ c.if-count-s.true) refl refl

pub returns-then-not-retire_if_needed : goal.returns-then-not-retire_if_needed
returns-then-not-retire_if_needed c = λ cid token advertise path. add_is c.args.f.ids.now c.args.f.well cid token advertise path c.args.retire_if_needed false false false true _ c.if-s.false (lt-leb _ _ c.if-s-ge-MAX_SEQUENCE.false) (le-ltb _ _ c.if-count-s.false) (ap not c.if-not-retire_if_needed.true) refl

pub overflow_add-result : goal.overflow_add-result
overflow_add-result c =
    let s = c.args.f.ids.now in
    let f = facts s c.args.f.well in
    let h = lowest_below (T.at_least s.retire_prior_to) s.next_scid_seq _ (live s.scids) f.rises (optional_some _ _ (low c.args.f.ids.now _ c.live.ensures _ c.lowest_from.ensures ∙ c.in-Some.is)) in
    omega (arith, f.bounds.next_most)

pub returns-in-Some : goal.returns-in-Some
returns-in-Some c = λ cid token advertise path. add_is c.args.f.ids.now c.args.f.well cid token advertise path c.args.retire_if_needed false false false false _ c.if-s.false (lt-leb _ _ c.if-s-ge-MAX_SEQUENCE.false) (le-ltb _ _ c.if-count-s.false) (ap not c.if-not-retire_if_needed.false) (optional_some _ _ (low c.args.f.ids.now _ c.live.ensures _ c.lowest_from.ensures ∙ c.in-Some.is))

pub returns-in-None : goal.returns-in-None
returns-in-None c = λ cid token advertise path. add_is c.args.f.ids.now c.args.f.well cid token advertise path c.args.retire_if_needed false false false false none c.if-s.false (lt-leb _ _ c.if-s-ge-MAX_SEQUENCE.false) (le-ltb _ _ c.if-count-s.false) (ap not c.if-not-retire_if_needed.false) (optional_none _ (low c.args.f.ids.now _ c.live.ensures _ c.lowest_from.ensures ∙ c.in-None.is))
