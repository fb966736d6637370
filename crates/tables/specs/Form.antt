-- Document 01's tests 11 and 12: a table's form, told from the table alone. Assumes nothing.
use Rattle.std.specs.Prelude.{Bool, true, ◌&&◌, List, [], ℕ, zero, suc, leb, ltb, eqb, length, get_or}
use Rattle.logic.specs.Numbers.{among}
use Rattle.refusals.specs.declared.Refusal.TheVariants.{TableForm, NotRising}
use Rattle.refusals.specs.Results.{Checked}
use Rattle.refusals.specs.Tests.{◌⟫◌, unless, lowest, against, after}
use Rattle.tables.specs.declared.packed.Grant.{Grant}
use Rattle.tables.specs.Tables.{head_of, count, place, spare_at, grants_of}

-- the head's edition, kind and spare bits are right
unfoldable pub headed : List ℕ → Bool
headed t = eqb (get_or (head_of t) 0 0) 1 && (eqb (get_or (head_of t) 1 0) 2 && eqb (get_or (head_of t) 2 0) 0)

-- the spare bits of n records from record i on are 0
unfoldable pub spared : List ℕ → ℕ → ℕ → Bool
spared t i zero = true
spared t i (suc n) = eqb (spare_at t i) 0 && spared t (suc i) n

-- the table has at least 8 bytes; the right edition, kind and spare bits; a count of 1 to 1,024; and exactly 8 + 5 × count bytes
unfoldable pub formed : List ℕ → Bool
formed t =
    leb 8 (length t) && (headed t && (among 1 1024 (count t) && (eqb (length t) (place (count t)) && spared t 0 (count t))))

-- 11: table under 8 bytes, or wrong edition, kind, spare bits, count or length
unfoldable pub test11 : List ℕ → Checked
test11 t = unless (formed t) TableForm

-- a grant starts after the one before it
unfoldable pub rises : Grant → Grant → Bool
rises p g = ltb p.start g.start

-- 12: starts not strictly rising
unfoldable pub test12 : List Grant → Checked
test12 gs = lowest NotRising 1 (against (after rises) [] gs)

-- tests 11 and 12, in their order
unfoldable pub form_tests : List ℕ → Checked
form_tests t = test11 t ⟫ test12 (grants_of t)
