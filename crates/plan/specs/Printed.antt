-- Document 01: the program "prints the plan"; "A refusal prints one line". What it prints of a list and of a sheet. Assumes nothing.
use Rattle.std.specs.Prelude.{ℕ, cond, List, [], ltb, length, codes, Ok, Err}
use Rattle.refusals.specs.Results.{Written}
use Rattle.lists.specs.Lists.{list_of}
use Rattle.planner.specs.Plan.{plan_table, plan_answer}
use Rattle.sheets.specs.Readings.{flows_in}
use Rattle.sheets.specs.Answers.{list_answer}
use Rattle.texts.specs.Texts.{plan_text, refusal_text}

-- the text where bytes were written, or that of the refusal
abbrev pub printed : Written → List ℕ → List ℕ
printed (Ok k) text = text
printed (Err r) text = refusal_text r

-- what is printed of a list, whose table has a room for 1,024 grants
unfoldable pub list_text : List ℕ → List ℕ
list_text l = printed (plan_answer l 5128) (plan_text l (plan_table l))

-- what is printed of a sheet, whose list has a room for 128 flows
unfoldable pub sheet_text : List ℕ → List ℕ
sheet_text s = printed (list_answer s 772) (list_text (list_of (flows_in s)))

-- what is written of a text, for which there is a room of 32,768 bytes
abbrev pub shown : List ℕ → List ℕ
shown t = cond (ltb 32768 (length t)) [] t

-- what is written of the bytes that are read: a sheet has at most 65,536
unfoldable pub input_text : List ℕ → List ℕ
input_text s = cond (ltb 65536 (length s)) (codes "sheet too long\n") (shown (sheet_text s))
