-- `adding::writing::write_grants` meets its contract.
-- Assumes nothing.
use Rattle.std.proofs.Common.{◌≡◌, refl, sym, ap, ◌∙◌, List, ℕ, ◌+◌, ◌-◌, ◌*◌, ◌/◌, ◌≤◌, ◌<◌, length, get_or, take, drop, arith}
use lib.Seq.{sets}
use Rattle.lists.specs.Facts.{grants_of}
use Rattle.tables.specs.Tables.{cycle_of, place, grant_at, grants_of as grants_in, records_after}
use Rattle.tables.proofs.Records.{length-grants, grant_is}
use Rattle.tables.proofs.Forms.{is_formed}
use Rattle.law.specs.Law.{blank}
use Rattle.offsets.specs.Offsets.{new_grants}
use Rattle.adding.proofs.Known.{Known, known}
use Rattle.adding.proofs.Merging.{merge_old, merge_new, merge_end, records_copied}
use Rattle.adding.proofs.writing.write_grants.Goals as goal
use Rattle.adding.proofs.writing.write_grants.Goals.{After-next_from-j, At-loop-k}

-- what is known of the table and the new flow
is : (c : At-loop-k) → Known c.requires.0.0 c.args.table.now c.args.f
is c = known c.requires.0.0 c.args.table.now c.args.f c.requires.0.1

-- the old grants, as the code counts them
olds : (c : At-loop-k) → c.count-n.result ≡ length (grants_in c.args.table.now)
olds c = c.count-n.ensures ∙ sym (length-grants c.args.table.now)

-- the new ones
news : (c : At-loop-k) → c.from-more.result ≡ cycle_of c.args.table.now / c.args.f.interval
news c = c.from-more.ensures ∙ c.times.ensures ∙ ap (λ (x : ℕ). x / c.args.f.interval) c.cycle.ensures

-- records up to record j stand in the table, and k further on there is room for them
inside : (c : At-loop-k) (j : ℕ) → j ≤ c.count-n.result → (place j ≤ length c.args.table.now) × (place (j + c.loop-k.k) ≤ length c.loop-k.room)
inside c j h =
    let v = c.loop-k in
    omega (arith, c.count-n.ensures, (is c).form.all.exact, v.invariant.0, v.invariant.1.new, c.requires.2)

-- what copying records up to record j comes to
copied : (c : At-loop-k) (j : ℕ) (next : List ℕ) → let t = c.args.table.now in let v = c.loop-k in v.i ≤ j → j ≤ c.count-n.result
    → next ≡ sets v.room (place (v.i + v.k)) (take (place j - place v.i) (drop (place v.i) t)) → next ≡ records_after (v.i + v.k) (take (j - v.i) (drop v.i (grants_in t))) v.room
copied c j next a b e =
    let t = c.args.table.now in
    let v = c.loop-k in
    let k = is c in
    records_copied t (λ i. omega (arith, c.shared_slice_known-1.given i)) (is_formed t k.form) k.fit v.i j v.k v.room next a (omega (arith, c.count-n.ensures)) (inside c j b).1 e

pub next_from-j-requires : goal.next_from-j-requires
next_from-j-requires c = omega (arith, c.loop-k.invariant.1.old, olds (goal.at.next_from-j-requires c).At-loop-k)

-- the old grants before the next record start before the new one
before : (c : After-next_from-j) → let t = c.args.table.now in
    (p : ℕ) → c.loop-k.i ≤ p → p < c.next_from-j.result → (get_or (grants_in t) p blank).start < c.args.offset + c.loop-k.k * c.args.f.interval
before c p a b =
    let t = c.args.table.now in
    let N = c.next_from-j.ensures in
    rw (← grant_is t blank p (grant_at t p) (omega (arith, N.within, c.count-n.ensures)) refl) (N.all p a b)

-- and that one, where there is one, does not
not-before : (c : After-next_from-j) → let t = c.args.table.now in
    c.next_from-j.result < length (grants_in t) → c.args.offset + c.loop-k.k * c.args.f.interval ≤ (get_or (grants_in t) c.next_from-j.result blank).start
not-before c h =
    let t = c.args.table.now in
    let r = c.next_from-j.result in
    rw (← grant_is t blank r (grant_at t r) (omega (arith, length-grants t)) refl) (c.next_from-j.ensures.ends (omega (arith, olds (goal.at.After-next_from-j c).At-loop-k)))

pub copy_records-requires : goal.copy_records-requires
copy_records-requires c =
    let N = c.next_from-j.ensures in
    omega (arith, N.on, inside (goal.at.copy_records-requires c).At-loop-k c.next_from-j.result N.within)

pub loop-k-preserved : goal.loop-k-preserved
loop-k-preserved c =
    let v = c.loop-k in
    let N = c.next_from-j.ensures in
    let at = (goal.at.loop-k-preserved c).At-loop-k in
    let next = (goal.at.loop-k-preserved c).After-next_from-j in
    let M =
    merge_old _ _ _ _ _ _ _ _ v.invariant.1 c.next_from-j.result _ N.on (omega (arith, N.within, olds at)) (before next) (copied at c.next_from-j.result _ N.on N.within c.copy_records.ensures) in (
      c.write_record.auto.room ∙ c.copy_records.auto.room ∙ v.invariant.0,
      merge_new _ _ _ _ _ _ _ _ M _ (is at).rising (not-before next) (omega (arith, c.loop-k-test.true, news at)) c.write_record.ensures.room_after,
    )

pub copy_records-requires-2 : goal.copy_records-requires-2
copy_records-requires-2 c =
    let at = (goal.at.copy_records-requires-2 c).At-loop-k in
    omega (arith, c.loop-k.invariant.1.old, olds at, inside at c.count-n.result (omega arith), c.loop-k-test.false)

pub returns : goal.returns
unfolding new_grants grants_of
returns c =
    let v = c.loop-k in
    let at = (goal.at.returns c).At-loop-k in
    let all : c.from-more.result ≡ v.k = omega (arith, news at, v.invariant.1.new, c.loop-k-test.false) in
    merge_end _ _ _ _ _ _ _ _ v.invariant.1 c.count-n.result _ (olds at) (omega (arith, news at, c.loop-k-test.false))
    (copied at c.count-n.result _ (omega (arith, v.invariant.1.old, olds at)) (omega arith) (rw all at c.copy_records-2.ensures))
