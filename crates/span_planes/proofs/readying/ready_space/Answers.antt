use Rattle.std.proofs.Common.{inl, inr, arith}
use Rattle.span_planes.specs.Readied.{IsNotOpened, IsReadied, IsRefused}
use Rattle.span_planes.proofs.Readied.{if_readied, if_refused, readied_seen, ready_refused}
use Rattle.span_planes.proofs.readying.ready_space.Goals as goal

pub returns-in-Ok-Empty-clause-readied : goal.returns-in-Ok-Empty-clause-readied
returns-in-Ok-Empty-clause-readied g c =
    let disk = g.E.Disk in
    let params = c.args.params.now in
    let second = c.look.new.second in
    if_readied (IsReadied disk params second) (IsReadied disk params c.args.second) c.make_new.result
    (λ space is r. readied_seen disk params c.args.second second space c.look.ensures.reads.tells c.look.ensures.reads.image r) c.make_new.ensures.readied

pub returns-in-Ok-Empty-clause-refused : goal.returns-in-Ok-Empty-clause-refused
returns-in-Ok-Empty-clause-refused g c =
    let disk = g.E.Disk in
    let params = c.args.params.now in
    let second = c.look.new.second in
    let same = c.in-Ok-Empty.ensures.reads.faults in
    let seen = rw c.in-Ok-Empty.field-0-is at c.in-Ok-Empty.ensures.seen in
    if_refused (IsNotOpened disk params second) (IsRefused disk params c.args.second) c.make_new.result
    (λ ended is n. ready_refused disk params c.args.second second ended (omega (arith, same)) c.look.ensures.reads.tells c.look.ensures.reads.image (λ told. inl (seen told)) n)
    c.make_new.ensures.refused

pub returns-in-Ok-NoVersion-clause-readied : goal.returns-in-Ok-NoVersion-clause-readied
returns-in-Ok-NoVersion-clause-readied g c =
    let disk = g.E.Disk in
    let params = c.args.params.now in
    let second = c.look.new.second in
    if_readied (IsReadied disk params second) (IsReadied disk params c.args.second) c.open_no_version.result
    (λ space is r. readied_seen disk params c.args.second second space c.look.ensures.reads.tells c.look.ensures.reads.image r) c.open_no_version.ensures.readied

pub returns-in-Ok-NoVersion-clause-refused : goal.returns-in-Ok-NoVersion-clause-refused
returns-in-Ok-NoVersion-clause-refused g c =
    let disk = g.E.Disk in
    let params = c.args.params.now in
    let second = c.look.new.second in
    let same = c.in-Ok-NoVersion.ensures.reads.faults in
    let seen = rw c.in-Ok-NoVersion.field-0-is at c.in-Ok-NoVersion.ensures.seen in
    if_refused (IsNotOpened disk params second) (IsRefused disk params c.args.second) c.open_no_version.result
    (λ ended is n. ready_refused disk params c.args.second second ended (omega (arith, same)) c.look.ensures.reads.tells c.look.ensures.reads.image (λ told. inr (seen told)) n)
    c.open_no_version.ensures.refused
