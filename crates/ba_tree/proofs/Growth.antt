-- Calls that build, one after another: what they are refused for, and how many pages they give out.
use Rattle.std.proofs.Common.{◌≡◌, Bool, ℕ, ◌+◌, ◌≤◌, IfOk, IsTrue, Result, Ok, Err, sym, ◌∙◌, subst, arith, refl}
use Rattle.ports.specs.Count.{Rose}
use Rattle.ports.specs.Calls.{Grows, WentOn}
use Rattle.ports.specs.Frame.{KeepsPages}
use Rattle.ports.specs.declared.page.StageFault.{StageFault}
use Rattle.ports.specs.declared.page.StageFault.TheVariants.{Damaged, Disk, NoMemory, PageLimit}
use Rattle.ports.specs.declared.pages.Pages.{Ghosts}
use Rattle.ba_tree.specs.Building.{Builds}

-- The stage went on, gave out at most so many pages more, and no page left the map.
pub record Grew {P : Type 0} (g : Ghosts P) (most : ℕ) (old new : P) : Type 0 where
  pub went_on : WentOn g most old new
  pub keeps : IsTrue (g.tells old) → KeepsPages (g.map old) (g.map new)

grew_by : {P T : Type 0} (g : Ghosts P) (most : ℕ) (old new : P) (r : Result T StageFault) → Grows g most old new r → Grew g most old new
grew_by g most old new r h = record { went_on = h.went_on; keeps = h.keeps }

grew_none : {P : Type 0} (g : Ghosts P) (most : ℕ) (old : P) → Grew g most old old
grew_none g most old = record {
  went_on = record {
    tells = refl;
    base = refl;
    limit = refl;
    free_in_order = λ told order. order;
    none_forgotten = λ told order page gone. gone;
    allotted = omega arith;
    at_most = omega arith;
    gets = omega arith;
    faults = omega arith;
  };
  keeps = λ told page there. there;
}

grew_then : {P : Type 0} (g : Ghosts P) (a b c : ℕ) (old mid new : P) → Grew g a old mid → Grew g b mid new → g.allotted new ≤ g.allotted old + c → Grew g c old new
grew_then g a b c old mid new first second most =
    let f = first.went_on in
    let h = second.went_on in
    record {
      went_on = record {
        tells = h.tells ∙ f.tells;
        base = h.base ∙ f.base;
        limit = h.limit ∙ f.limit;
        free_in_order = λ told order. h.free_in_order (subst IsTrue (sym f.tells) told) (f.free_in_order told order);
        none_forgotten = λ told order page gone. f.none_forgotten told order page (h.none_forgotten (subst IsTrue (sym f.tells) told) (f.free_in_order told order) page gone);
        allotted = let x = f.allotted in let y = h.allotted in omega (arith, x, y);
        at_most = most;
        gets = let x = f.gets in let y = h.gets in omega (arith, x, y);
        faults = let x = f.faults in let y = h.faults in omega (arith, x, y);
      };
      keeps = λ told page there. second.keeps (subst IsTrue (sym f.tells) told) page (first.keeps told page there);
    }

grew_more : {P : Type 0} (g : Ghosts P) (a b c : ℕ) (old mid new : P) → Grew g a old mid → Grew g b mid new → a + b ≤ c → Grew g c old new
grew_more g a b c old mid new first second le =
    let x = first.went_on.at_most in
    let y = second.went_on.at_most in
    grew_then g a b c old mid new first second (omega (arith, x, y, le))

rose_earlier : (a b c : ℕ) → a ≤ b → Rose b c → Rose a c
rose_earlier a b c le h = omega (arith, le, h)

grows_after : {P T : Type 0} (g : Ghosts P) (a b c : ℕ) (old mid new : P) (r : Result T StageFault) → Grew g a old mid → Grows g b mid new r
    → Grew g c old new → g.allotted mid + b ≤ g.allotted old + c → Grows g c old new r
grows_after g a b c old mid new r first call grew le =
    let f = first.went_on in
    record {
      went_on = grew.went_on;
      keeps = grew.keeps;
      disk = λ e. rose_earlier (g.faults old) (g.faults mid) (g.faults new) f.faults (call.disk e);
      page_limit = λ n e. let limit = call.page_limit n e in let third = limit.2 in (limit.0 ∙ f.limit, limit.1, omega (arith, le, third));
    }

-- A call after others, as one that gives out at most so many.
grows_then : {P T : Type 0} (g : Ghosts P) (a b c : ℕ) (old mid new : P) (r : Result T StageFault) → Grew g a old mid → Grows g b mid new r → a + b ≤ c → Grows g c old new r
grows_then g a b c old mid new r first call le =
    let x = first.went_on.at_most in
    grows_after g a b c old mid new r first call (grew_more g a b c old mid new first (grew_by g b mid new r call) le) (omega (arith, x, le))

-- Calls went well: they gave out at most so many pages where the map is told, and else any number.
pub record Went {P : Type 0} (g : Ghosts P) (most : ℕ) (old new : P) : Type 0 where
  pub grew : Grew g (g.allotted new + 1) old new
  pub number : IsTrue (g.tells old) → Grew g most old new

pub still_told : (now before : Bool) → now ≡ before → IsTrue before → IsTrue now
still_told now before same told = subst IsTrue (sym same) told

pub went : {P T : Type 0} (g : Ghosts P) (most : ℕ) (old new : P) (r : Result T StageFault) → Builds g most old new r → Went g most old new
went g most old new r call = record {
  grew = grew_by g (g.allotted new + 1) old new r call.grows;
  number = λ tells. grew_by g most old new r (call.few tells);
}

pub went_none : {P : Type 0} (g : Ghosts P) (most : ℕ) (old : P) → Went g most old old
went_none g most old = record { grew = grew_none g (g.allotted old + 1) old; number = λ tells. grew_none g most old }

pub went_then : {P : Type 0} (g : Ghosts P) (a b c : ℕ) (old mid new : P) → Went g a old mid → Went g b mid new → a + b ≤ c → Went g c old new
went_then g a b c old mid new first second le = record {
  grew = grew_then g (g.allotted mid + 1) (g.allotted new + 1) (g.allotted new + 1) old mid new first.grew second.grew (omega arith);
  number = λ tells. grew_more g a b c old mid new (first.number tells) (second.number (subst IsTrue (sym first.grew.went_on.tells) tells)) le;
}

-- a call after others
pub builds_then : {P T : Type 0} (g : Ghosts P) (a b c : ℕ) (old mid new : P) (r : Result T StageFault) → Went g a old mid → Builds g b mid new r → a + b ≤ c
    → Builds g c old new r
builds_then g a b c old mid new r first call le =
    let f = first.grew.went_on in
    let x = call.grows.went_on.allotted in
    let grew = grew_then g (g.allotted mid + 1) (g.allotted new + 1) (g.allotted new + 1) old mid new first.grew (grew_by g (g.allotted new + 1) mid new r call.grows) (omega arith) in
    record {
      damaged = λ page e tells order. call.damaged page e (subst IsTrue (sym f.tells) tells) (f.free_in_order tells order);
      grows = record {
        went_on = grew.went_on;
        keeps = grew.keeps;
        disk = λ e. rose_earlier (g.faults old) (g.faults mid) (g.faults new) f.faults (call.grows.disk e);
        page_limit = λ n e. let limit = call.grows.page_limit n e in let second = limit.1 in (limit.0 ∙ f.limit, second, omega (arith, second));
      };
      few = λ tells. grows_then g a b c old mid new r (first.number tells) (call.few (subst IsTrue (sym f.tells) tells)) le;
    }

pub builds_less : {P T : Type 0} (g : Ghosts P) (a b : ℕ) (old new : P) (r : Result T StageFault) → Builds g a old new r → a ≤ b → Builds g b old new r
builds_less g a b old new r call le = builds_then g 0 a b old old new r (went_none g 0 old) call (omega (arith, le))

-- what is refused as a call was
pub refused : {P T U : Type 0} (g : Ghosts P) (most : ℕ) (old new : P) (q : Result U StageFault) (fault : StageFault)
    → ((y : StageFault) × (q ≡ Err y) × (y ≡ fault)) → Builds {T = T} g most old new (Err fault) → Builds g most old new q
refused {P} {T} g most old new q fault was call = record {
  damaged = λ page e tells order. let asked : ◌≡◌ {A = Result T StageFault} (Err fault) (Err (Damaged page)) = handed (Damaged page) e in call.damaged page asked tells order;
  grows = handed_grows (g.allotted new + 1) call.grows;
  few = λ tells. handed_grows most (call.few tells);
} where
  handed : (other : StageFault) → q ≡ Err other → ◌≡◌ {A = Result T StageFault} (Err fault) (Err other)
  handed other e = let first = was.1 in let second = was.2 in cc

  handed_grows : (n : ℕ) → Grows {T = T} g n old new (Err fault) → Grows g n old new q
  handed_grows n h = record {
    went_on = h.went_on;
    keeps = h.keeps;
    disk = λ e. h.disk (handed Disk e);
    page_limit = λ limit e. h.page_limit limit (handed (PageLimit limit) e);
  }

pub builds_end : {P T : Type 0} (g : Ghosts P) (most : ℕ) (old new : P) (value : T) → Went g most old new → Builds g most old new (Ok value)
builds_end g most old new value w = record {
  damaged = λ page e. cc;
  grows = ends (g.allotted new + 1) w.grew;
  few = λ tells. ends most (w.number tells);
} where
  ends : (n : ℕ) → Grew g n old new → Grows g n old new (Ok value)
  ends n grew = record { went_on = grew.went_on; keeps = grew.keeps; disk = λ e. cc; page_limit = λ limit e. cc }

pub no_memory : {P T : Type 0} (g : Ghosts P) (most : ℕ) (old : P) → Builds {T = T} g most old old (Err NoMemory)
no_memory {P} {T} g most old = record {
  damaged = λ page e. cc;
  grows = none (g.allotted old + 1);
  few = λ tells. none most;
} where
  none : (n : ℕ) → Grows {T = T} g n old old (Err NoMemory)
  none n = let grew = grew_none g n old in record { went_on = grew.went_on; keeps = grew.keeps; disk = λ e. cc; page_limit = λ limit e. cc }

-- what follows from what a call answers
pub map_ok : {T E : Type 0} {P Q : T → Type 0} (r : Result T E) → ((x : T) → P x → Q x) → IfOk r P → IfOk r Q
map_ok (Ok x) f p = f x p
map_ok (Err e) f p = tt

pub map_both : {T E : Type 0} {P Q R : T → Type 0} (r : Result T E) → ((x : T) → P x → Q x → R x) → IfOk r P → IfOk r Q → IfOk r R
map_both (Ok x) f p q = f x p q
map_both (Err e) f p q = tt
