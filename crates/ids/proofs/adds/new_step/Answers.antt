-- The four tests are the definition's.
use Rattle.std.specs.Prelude.{refl, true, false}
use Rattle.std.proofs.Common.{sym, ap, ◌∙◌, lt-ltb, le-ltb}
use Rattle.ids.specs.AddLaws.{keeps, stays}
use Rattle.ids.specs.AddWays.{new_is}
use Rattle.ids.specs.Reading.{item_view, view, retired_of}
use Rattle.ids_rules.specs.Steps.{add_new}
use Rattle.ids.proofs.adds.new_step.Goals as goal

pub returns-then-x-b : goal.returns-then-x-b
returns-then-x-b c =
    keeps c.args.f.ids.now c.args.f.well 4 (add_new (item_view c.args.x) c.args.b (view c.args.f.ids.now))
    (new_is (item_view c.args.x) c.args.b (view c.args.f.ids.now) true _ _ _ (lt-ltb _ _ c.if-x-b.true) refl refl refl) _ c.unchanged.ensures

pub returns-then-queue_has : goal.returns-then-queue_has
returns-then-queue_has c =
    stays c.args.f.ids.now c.args.f.well (add_new (item_view c.args.x) c.args.b (view c.args.f.ids.now))
    (new_is (item_view c.args.x) c.args.b (view c.args.f.ids.now) false true true _ (le-ltb _ _ c.if-x-b.false) (lt-ltb _ _ c.if-x-s.true) (sym c.queue_has.ensures ∙ c.if-queue_has.true) refl) _ c.unchanged-then-queue_has.ensures

pub returns-then-s-b : goal.returns-then-s-b
returns-then-s-b c =
    c.raise_step.ensures
    ∙ sym (ap retired_of (new_is (item_view c.args.x) c.args.b (view c.args.f.ids.now) false false _ true (le-ltb _ _ c.if-x-b.false) (le-ltb _ _ c.if-x-s.false) refl (lt-ltb _ _ c.if-s-b.true)))

pub returns : goal.returns
returns c =
    c.append_step.ensures
    ∙ sym (ap retired_of (new_is (item_view c.args.x) c.args.b (view c.args.f.ids.now) false false _ false (le-ltb _ _ c.if-x-b.false) (le-ltb _ _ c.if-x-s.false) refl (le-ltb _ _ c.if-s-b.false)))
