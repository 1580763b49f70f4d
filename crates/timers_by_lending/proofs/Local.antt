-- A local that holds a timer table, as memory that can be lent, and back: for a walk of code that lends one.
--     tv, ov           the machine value of a table, and of what a call that changes one gives
--     out, out_is      the struct of a table and an answer, and that its machine value is made of theirs
--     ref              the reference to the local b, under the name γ, at h
--     lies             the local's cell with h's machine value  ⊢  h lies at b
--     stands           h lies at b  ⊢  the local's cell with h's machine value, and what h owns
-- `lies` and `stands` assume `Logic`. The rest assumes nothing.
use Rattle.std.specs.Prelude.{ℕ, [], ◌∷◌, List}
use seplogic.Ra.Ura.{Ura}
use base.Fraction.{full_share}
use mir.Val.{Val}
use base.Logic.{ent, sep}
use base.Fml.{GName, fsep, fat}
use types.Logic.{Logic, sem}
use types.Kit.{‵, ◌$◌, ◌∵◌, !, qed, move, use1, fsplit, fjoin, fpick, fpack, done}
use denote.Laws.{Is, shows}
use denote.Memory.{mem, cell_at, part_of}
use denote.Ref.{MutBor}
use denote.Steps.{owned}
use denote.Struct.Steps.{spelt}
use denote.Struct.Laws as LL
use Rattle.timers.specs.declared.table.TimerTable.{TimerTable}
use Rattle.timers.specs.contracts.table.TimerTable as TimerTableᵀ
use Rattle.timers.proofs.table.TimerTable.TheLaws as TimerTableᴸ
use Rattle.timers.specs.declared.table.TimersOut.{TimersOut}
use Rattle.timers.specs.contracts.table.TimersOut as TimersOutᵀ
use Rattle.timers.proofs.table.TimersOut.TheLaws as TimersOutᴸ
use Rattle.values.specs.declared.answers.Done.{Done}
use Rattle.values.specs.contracts.answers.Done as Doneᵀ
use Rattle.values.proofs.answers.Done.TheLaws as Doneᴸ

abbrev pub tv : TimerTable → Val
tv = LL.val TimerTableᵀ.the_type TimerTableᴸ.the_laws

abbrev pub ov : TimersOut → Val
ov = LL.val TimersOutᵀ.the_type TimersOutᴸ.the_laws

-- the struct of the table that is back and the callee's answer
abbrev pub out : TimerTable → Done → TimersOut
out y r = record { timers = y; answer = r }

pub out_is : (y : TimerTable) (r : Done) (v : Val) → Is TimerTableᵀ.the_row y (tv y ∷ []) → Is Doneᵀ.the_row r (v ∷ []) → Is TimersOutᵀ.the_row (out y r) (ov (out y r) ∷ [])
out_is y r v was is = LL.owes TimersOutᵀ.the_type TimersOutᴸ.the_laws (out y r) (was, (LL.owes Doneᵀ.the_type Doneᴸ.the_laws r (LL.owed Doneᵀ.the_type Doneᴸ.the_laws r _ is), tt))

abbrev pub ref : ℕ → GName → TimerTable → MutBor TimerTable
ref b γ h = record { ref_ptr = (b, 0); ghost_name = γ; now = h }

module _ {M : Type 1} {𝓤 : Ura M} (𝓛 : Logic 𝓤) where
  pub lies : (b : ℕ) (h : TimerTable) → Is TimerTableᵀ.the_row h (tv h ∷ []) → ent 𝓤 (sem 𝓛 (fat full_share TimerTableᴸ.mir b 0 (tv h))) (sem 𝓛 ((mem TimerTableᵀ.the_row).own_at h b 0))
  unfolding part_of
  lies b h is =
      qed 𝓛 (‵ (fat full_share TimerTableᴸ.mir b 0 (tv h)) ∷ []) ∵ use1 𝓛 (‵ (cell_at full_share (TimerTableᵀ.the_row).mir (tv h ∷ []) b 0)) (𝓛.laws.at_raw full_share TimerTableᴸ.mir b 0 (tv h)) $
      owned ! TimerTableᵀ.the_row (Is TimerTableᵀ.the_row) (LL.makes TimerTableᵀ.the_type TimerTableᴸ.the_plain 𝓛) h _ is $ move ! (1 ∷ 0 ∷ []) $ fjoin ! $ fpack ! (List Val) (λ vs. fsep (cell_at full_share (TimerTableᵀ.the_row).mir vs b 0) ((TimerTableᵀ.the_row).own_val h vs)) (tv h ∷ []) $ done !

  pub stands : (b : ℕ) (h : TimerTable) → ent 𝓤 (sem 𝓛 ((mem TimerTableᵀ.the_row).own_at h b 0)) (sep 𝓤 (sem 𝓛 (fat full_share TimerTableᴸ.mir b 0 (tv h))) (sem 𝓛 ((TimerTableᵀ.the_row).own_val h (tv h ∷ []))))
  unfolding part_of
  stands b h =
      qed 𝓛 (‵ ((mem TimerTableᵀ.the_row).own_at h b 0) ∷ []) ∵ fpick ! (λ vs. fsplit ! $ spelt ! TimerTableᵀ.the_row (Is TimerTableᵀ.the_row) (shows 𝓛 TimerTableᵀ.the_row) (LL.vals TimerTableᵀ.the_type TimerTableᴸ.the_laws) (LL.tells TimerTableᵀ.the_type TimerTableᴸ.the_laws) full_share h vs b 0 $
      use1 𝓛 (‵ (fat full_share TimerTableᴸ.mir b 0 (tv h))) (𝓛.laws.raw_at full_share TimerTableᴸ.mir b 0 (tv h)) $ done !)
