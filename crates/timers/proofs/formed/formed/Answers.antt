-- The chain folds the test over the table.
use Rattle.std.specs.Prelude.{◌≡◌, ◌&&◌, Bool, length}
use Rattle.std.proofs.Common.{◌∙◌, rules, tests}
use Rattle.std.proofs.lemmas.Iterator.{YieldsList-from_slice}
use Rattle.std.proofs.lemmas.Iterator.Consumers.{fold_from_yields_List}
use Rattle.lists.specs.Held.{long}
use Rattle.timers.proofs.Laws.{formed_by}
use Rattle.values.specs.Time.{deadline_formed_of}
use Rattle.values.specs.declared.time.Deadline.{Deadline}
use Rattle.timers.proofs.formed.formed.Goals as goal

pub returns : goal.returns
returns c =
    let l = c.args.t.now.expires in
    let n : length l ≡ 9 = search (rules, long) in
    fold_from_yields_List _ (λ (b : Bool) (d : Deadline). b && deadline_formed_of d) _ _ c.fold.ensures.ran (YieldsList-from_slice l cc) (λ a x b q k. search (rules, tests))
    ∙ formed_by c.args.t.now n
