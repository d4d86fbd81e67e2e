use Rattle.redo_journal.proofs.Common.{rules, ◌≡◌, [], ◌∙◌, ap, sym, subst, length, IsTrue, IsSome, on_ok_weaker, Image, LeavesOnly-same, coming, homes_of, map_of, with_images, AreWritable}
use Rattle.redo_journal.proofs.PlacingLemmas.{among_step, home_step}
use Rattle.redo_journal.proofs.RestLemmas.{settled_by, homes_start, homes_leave, homes_go_on, synced_stretch}
use Rattle.redo_journal.proofs.CallLemmas.{no_call, on_either, went_on}
use Rattle.redo_journal.proofs.committing.write_homes.Goals as goal

pub loop-home-init : goal.loop-home-init
loop-home-init g c =
    let d = c.args.disk.now in
    let start = g.D.Disk.image d in
    let is = c.in_order-rest.ensures.all in
    record {
      placed = λ told. ap (with_images start.pages) is;
      writable = λ told. subst (λ s. AreWritable (length start.pages) (homes_of s)) (sym is) (c.requires.writable told);
      among = λ page some. subst (λ s. IsSome (map_of s page)) is some;
      journal = λ told i. start.journal;
      goes = (LeavesOnly-same _ _, homes_start _ _ _ _ (g.met.D.Disk.tells_image d) c.requires.settled);
      went = no_call g.D.Disk d;
    }

pub loop-home-preserved : goal.loop-home-preserved
loop-home-preserved g c =
    let inv = c.loop-home.invariant in
    let told : Type 0 = IsTrue (g.D.Disk.tells c.args.disk.now) in
    let is = c.in-Some.ensures.some in
    let wrote = λ (h : told). c.in_ok-put_home.ensures.image (inv.went.tells ∙ h) in
    let step = λ (h : told).
    home_step (g.D.Disk.image c.loop-home.disk).pages is (ap (λ (x : Image). x.pages) (wrote h)) (inv.placed h) (inv.writable h) in
    let among = among_step _ is inv.among in
    record {
      placed = λ h. (step h).0;
      writable = λ h. (step h).1;
      among = among.1;
      journal = λ h. ap (λ (x : Image). x.journal) (wrote h) ∙ inv.journal h;
      goes = homes_go_on inv.goes (c.put_home.ensures.pends _ _ among.0);
      went = went_on g.D.Disk inv.went c.in_ok-put_home.ensures.writes;
    }

pub returns-in_err-put_home-clause-any_moment : goal.returns-in_err-put_home-clause-any_moment
returns-in_err-put_home-clause-any_moment g c =
    let inv = c.loop-home.invariant in
    (homes_go_on inv.goes (c.put_home.ensures.pends _ _ (among_step _ c.in-Some.ensures.some inv.among).0)).0

pub returns-clause-any_moment : goal.returns-clause-any_moment
returns-clause-any_moment g c =
    synced_stretch homes_leave _ _ (g.met.D.Disk.tells_image c.loop-home.disk) c.loop-home.invariant.goes
    (on_either c.sync.result c.sync.ensures.err c.sync.ensures.ok)

pub returns-clause-settled : goal.returns-clause-settled
returns-clause-settled g c = on_ok_weaker c.sync.result (λ landed. settled_by _ landed c.sync.ensures.image) c.sync.ensures.ok

pub returns-clause-placed : goal.returns-clause-placed
returns-clause-placed g c =
    let done : coming c.loop-home.rest ≡ [] = c.next.ensures.none (search rules) in
    on_ok_weaker c.sync.result (λ landed told. ap (λ (x : Image). x.pages) c.sync.ensures.image
    ∙ (ap (with_images (g.D.Disk.image c.loop-home.disk).pages) (sym done) ∙ c.loop-home.invariant.placed told)) c.sync.ensures.ok
