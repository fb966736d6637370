-- Demand 2: what it is that the check decides, of a list and a table in bytes. Assumes nothing.
use Rattle.std.specs.Prelude.{◌≡◌, List, ℕ}
use Rattle.refusals.specs.Results.{Passed}
use Rattle.lists.specs.Lists.{flows_of}
use Rattle.lists.specs.Facts.{cycle, frame}
use Rattle.lists.specs.Tests.{tests1to7}
use Rattle.tables.specs.Tables.{cycle_of, frame_of, grants_of}
use Rattle.tables.specs.Form.{form_tests}
use Rattle.law.specs.Law.{Law, Inside}

-- the table t is a lawful one for the list l
pub record Lawful (l t : List ℕ) : Type 0 where
  -- the list passes tests 1 to 7
  pub list : tests1to7 l ≡ Passed
  -- the table passes tests 11 and 12: its bytes have the form of a table, and its starts rise
  pub form : form_tests t ≡ Passed
  -- it belongs to the list
  pub same_cycle : cycle_of t ≡ cycle (flows_of l)
  pub same_frame : frame_of t ≡ frame (flows_of l)
  -- its grants, repeated every cycle, forever, obey the scheduling rules of document 002
  pub law : Law 0 (flows_of l) (grants_of t)
  -- every grant ends inside the cycle
  pub inside : Inside (flows_of l) (grants_of t)
