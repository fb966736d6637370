-- `adding::writing::copy_records` meets its contract.
-- Assumes nothing.
use Rattle.std.proofs.Common.{◌≡◌, ◌+◌, ◌-◌, length, take, drop, length-drop, ◌∙◌, arith, length-take-le}
use Rattle.words.proofs.Places.{put-fits}
use Rattle.tables.specs.Tables.{place}
use Rattle.adding.proofs.writing.copy_records.Goals as goal

pub returns : goal.returns
returns c =
    let a = c.args in
    let part = take (place a.j - place a.i) (drop (place a.i) a.table.now) in
    let size : length part ≡ place a.j - place a.i = length-take-le _ (drop (place a.i) a.table.now) (omega (arith, length-drop (place a.i) a.table.now, c.requires.1)) in
    c.put.ensures.room_after ∙ (put-fits (place (a.i + a.k)) part a.room.now (omega (arith, size, c.requires))).1
