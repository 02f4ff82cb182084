-- Demand 3 of runs is not empty: for counts that opening takes, and whatever closing fits its types and is handed that ledger and lent its
-- credits, there are a run of `open` that is accepted and a caller that runs `close` so after it, as proofs/Machine asks. Assumes nothing:
-- it is shown at every model.
use Prim.Native.Nat.{ℕ, zero, suc, ◌*◌, ◌^◌}
use mathlib.Core.Path.{◌≡◌, refl, sym, ap, ◌∙◌, subst}
use mathlib.Core.Logic.{∥∥₁_prop, ∥∥₁_elim, ∥∥₁_map}
use mathlib.Core.Bool.{Bool, true, false, ◌&&◌}
use mathlib.Core.List.{List, [], ◌∷◌, map}
use native.Mathlib.Nat.{lt_trans}
use lib.Dec.{T, eqb, ltb, ltb→lt}
use lib.Ieee.Bits.{is_true}
use types.Logic.{Logic}
use borrow.Author.Tests.{eqb-true}
use seplogic.Ra.Ura.{Ura}
use lib.IntN.{ℤ, pos}
use lib.ListN.{length, take, drop, get_or, replicate, length-map, length-replicate}
use lib.Seq.{take_at}
use mir.Syntax.{w64}
use mir.Val.{Fits}
use mir.Facts.{Fits-lit, sfits_lit}
use base.Logic.{emp}
use prog.Model.{Model}
use contract.Running.{Running}
use prog.Wired.{Wired}
use denote.RattleType.{RattleType}
use denote.Memory.{mem}
use denote.Builtin.{u64, i64}
use denote.Slice.{Room}
use Rattle.rules.specs.declared.outcomes.Outcome.{Outcome}
use Rattle.rules.specs.Verdict.{accepted}
use Rattle.rules.specs.Answers.{verdict_of}
use Rattle.rules.specs.Refusals.{opening_refusal}
use Rattle.rules.specs.Calls.{Opens, Opened as OpenedSo}
use Rattle.rules.specs.Demand.{Lent}
use Rattle.rules.specs.Lines.{agent_of, user_of, point_of}
use Rattle.rules.specs.July.{july_line, july_agents, july_users, july_points, lines, points}
use Rattle.rules.specs.contracts.Agent as A
use Rattle.rules.specs.contracts.User as U
use Rattle.rules.specs.contracts.Point as P
use Rattle.ledger.proofs.open.Symbol as open_code
use Rattle.ledger.proofs.Demand.{credits_left}
use Rattle.ledger.proofs.Machine.{OpenRan, open_runs, opened, Caller}
use Rattle.ledger.proofs.Fitting.{Every, Word, AgentFits, UserFits, PointFits, Slice, Closing, handed, ClosingFits}
use Rattle.ledger.proofs.Ready.{OpenFrom, open_ready, close_ready}

module _ {M : Type 1} {𝓤 : Ura M} (𝓛 : Logic 𝓤) (𝓜 : Model 𝓤 𝓛.H) (𝓡 : Running 𝓤 𝓛.H 𝓜) where
  -- ---- an opening that is run and accepted
  pub record OpenedFrom (users agents : ℕ) (held : List ℤ) : Type 1 where
    pub from : OpenFrom 𝓛 𝓜 𝓡 users agents held
    pub ran : OpenRan 𝓛 𝓜 𝓡 from.bound from.memory (emp 𝓤)
    pub answer : verdict_of ran.result.answer ≡ accepted
    -- a ledger of these counts, and a credit of 0 for each user
    pub ledger : ran.result.ledger ≡ record { users = users; agents = agents; month = pos 0 }
    pub credits : credits_left (opened 𝓛 𝓜 𝓡 from.bound from.memory (emp 𝓤) ran answer) ≡ replicate users (pos 0)

  accepts :
      (users agents : ℕ) (held : List ℤ)
      → opening_refusal users agents (length held) ≡ accepted
      → (f : OpenFrom 𝓛 𝓜 𝓡 users agents held)
      → OpenRan 𝓛 𝓜 𝓡 f.bound f.memory (emp 𝓤)
      → OpenedFrom users agents held
  accepts users agents held e f y =
      let u = f.bound.3.0 in
      let g = f.bound.3.1.0 in
      let h = f.bound.3.1.1.0.now in
      let ok : opening_refusal u g (length h) ≡ accepted =
      (λ i. opening_refusal (f.users_same i) (f.agents_same i) (length (f.held_same i))) ∙ e in
      let o : Opens u g h y.result y.last.1.1.0 = y.holds in
      let d : OpenedSo u g h y.result y.last.1.1.0 = o.where_accepted ok in
      record {
        from = f;
        ran = y;
        answer = ap (λ (r : Outcome). verdict_of r.answer) d.outcome;
        ledger = ap (λ (r : Outcome). r.ledger) d.outcome ∙ (λ i. record { users = f.users_same i; agents = f.agents_same i; month = pos 0 });
        credits =
            ap (take u) d.credits
            ∙ take_at (replicate u (pos 0)) (drop u h) u (length-replicate u (pos 0))
            ∙ ap (λ (n : ℕ). replicate n (pos 0)) f.users_same;
      }

  pub opening :
      Wired 𝓡.env open_code.code
      → (users agents : ℕ) (held : List ℤ)
      → opening_refusal users agents (length held) ≡ accepted
      → Fits w64 users
      → Fits w64 agents
      → Slice i64 Word held
      → ∥ OpenedFrom users agents held ∥₁
  opening w users agents held e fu fa fh =
      ∥∥₁_elim (open_ready 𝓛 𝓜 𝓡 users agents held fu fa fh) ∥∥₁_prop
      (λ f. ∥∥₁_map (open_runs 𝓛 𝓜 𝓡 w f.bound f.memory (emp 𝓤) f.ready) (accepts users agents held e f))

  -- ---- and a caller after it, that makes this closing
  module _ (users agents : ℕ) (held : List ℤ) (c : Closing) where
    pub record Made : Type 2 where
      pub opening : OpenedFrom users agents held
      pub caller :
          let o = opened 𝓛 𝓜 𝓡 opening.from.bound opening.from.memory (emp 𝓤) opening.ran opening.answer in
          Caller 𝓛 𝓜 𝓡 1 o.result.ledger (credits_left o)
      pub same : handed caller.0.0 caller.0.3 ≡ c

    pub made :
        Wired 𝓡.env open_code.code
        → opening_refusal users agents (length held) ≡ accepted
        → Fits w64 users
        → Fits w64 agents
        → Slice i64 Word held
        → ClosingFits c
        → c.ledger ≡ record { users = users; agents = agents; month = pos 0 }
        → Lent (replicate users (pos 0)) c.held
        → ∥ Made ∥₁
    made w e fu fa fh f g l =
        ∥∥₁_elim (opening w users agents held e fu fa fh) ∥∥₁_prop (λ o.
        ∥∥₁_map (close_ready 𝓛 𝓜 𝓡 c f) (λ x.
        record {
          opening = o;
          caller = (
            x.bound,
            ap (λ (z : Closing). z.ledger) x.same ∙ g ∙ sym o.ledger,
            subst (λ (z : List ℤ). Lent z x.bound.3.1.0.now) (sym o.credits)
                (subst (λ (z : List ℤ). Lent (replicate users (pos 0)) z) (sym (ap (λ (z : Closing). z.held) x.same)) l),
            x.memory,
            emp 𝓤,
            x.ready,
            λ y. tt,
          );
          same = x.same;
        }))

-- ---- so of paper 01's example file, with a held slice of three entries for its two users
abbrev small : List ℕ → Bool
small [] = true
small (n ∷ ns) = ltb n (2 ^ 63) && small ns

both : (a b : Bool) → T (a && b) → T a × T b
both true b t = (tt, t)
both false b t = absurd t

fitting : (ns : List ℕ) → T (small ns) → Every Word (map pos ns)
fitting [] t = tt
fitting (n ∷ ns) t = let b = both (ltb n (2 ^ 63)) (small ns) t in (sfits_lit b.0, fitting ns b.1)

counts : (ns : List ℕ) → T (small ns) → Every (Fits w64) ns
counts [] t = tt
counts (n ∷ ns) t =
    let b = both (ltb n (2 ^ 63)) (small ns) t in
    (record { fits = lt_trans (ltb→lt n (2 ^ 63) b.0) (ltb→lt (2 ^ 63) (2 ^ 64) tt) }, counts ns b.1)

room : (R : RattleType) (n : ℕ) → T (ltb n (2 ^ 64)) → T (ltb (n * (mem R).size) (2 ^ 63)) → Room R n
room R n s t = (ltb→lt n (2 ^ 64) s, ltb→lt (n * (mem R).size) (2 ^ 63) t)

-- lines of so many values each, and points of such
shaped : ℕ → List (List ℕ) → Bool
shaped w [] = true
shaped w (r ∷ rs) = (eqb (length r) w && small r) && shaped w rs

abbrev Line : ℕ → List ℤ → Type 0
Line n l = (length l ≡ n) × Every Word l

lines_fit : (w : ℕ) (rows : List (List ℕ)) → T (shaped w rows) → Every (Line w) (lines rows)
unfolding shaped
lines_fit w [] t = tt
lines_fit w (r ∷ rs) t =
    let b = both (eqb (length r) w && small r) (shaped w rs) t in
    let c = both (eqb (length r) w) (small r) b.0 in
    ((length-map r pos ∙ eqb-true (length r) w (is_true _ c.0), fitting r c.1), lines_fit w rs b.1)

entry : (l : List ℤ) → Every Word l → (i : ℕ) → Word (get_or l i (pos 0))
entry [] e i = sfits_lit tt
entry (x ∷ xs) e zero = e.0
entry (x ∷ xs) e (suc i) = entry xs e.1 i

agents_fit : (ls : List (List ℤ)) → Every (Line 7) ls → Every AgentFits (map agent_of ls)
agents_fit [] e = tt
agents_fit (l ∷ ls) e =
    let at = entry l e.0.1 in
    (record { number = at 0; pb = at 1; pv = at 2; afs = at 3; rfs = at 4; pa = at 5; ret = at 6 }, agents_fit ls e.1)

users_fit : (ls : List (List ℤ)) → Every (Line 4) ls → Every UserFits (map user_of ls)
users_fit [] e = tt
users_fit (l ∷ ls) e = let at = entry l e.0.1 in (record { number = at 0; kind = at 1; ret = at 2; ong = at 3 }, users_fit ls e.1)

points_fit : (ls : List (List ℤ)) → Every (Line 9) ls → Every PointFits (map point_of ls)
points_fit [] e = tt
points_fit (l ∷ ls) e =
    let at = entry l e.0.1 in (
      record { user = at 0; tp = at 1; tf = at 2; dp = at 3; df = at 4; mp = at 5; mf = at 6; vp = at 7; vf = at 8 },
      points_fit ls e.1,
    )

abbrev july : Closing
july =
    record {
      ledger = record { users = 2; agents = 2; month = pos 0 };
      held = map pos (0 ∷ 0 ∷ 88 ∷ []);
      line = july_line;
      agents = map agent_of (lines july_agents);
      users = map user_of (lines july_users);
      points = points july_points;
      cells = map pos (replicate 7 9);
      work = replicate 32 0;
    }

july_fits : ClosingFits july
unfolding shaped
july_fits =
    record {
      ledger = record { users = Fits-lit tt; agents = Fits-lit tt; month = sfits_lit tt };
      held = record { each_fits = fitting (0 ∷ 0 ∷ 88 ∷ []) tt; room = room i64 3 tt tt };
      line = record { month = sfits_lit tt; ons = sfits_lit tt };
      agents = record { each_fits = agents_fit (lines july_agents) (lines_fit 7 july_agents tt); room = room A.the_row 2 tt tt };
      users = record { each_fits = users_fit (lines july_users) (lines_fit 4 july_users tt); room = room U.the_row 2 tt tt };
      points = record { each_fits = points_fit (lines july_points) (lines_fit 9 july_points tt); room = room P.the_row 2 tt tt };
      cells = record { each_fits = fitting (replicate 7 9) tt; room = room i64 7 tt tt };
      work = record { each_fits = counts (replicate 32 0) tt; room = room u64 32 tt tt };
    }

pub july_made :
    {M : Type 1} {𝓤 : Ura M} (𝓛 : Logic 𝓤) (𝓜 : Model 𝓤 𝓛.H) (𝓡 : Running 𝓤 𝓛.H 𝓜)
    → Wired 𝓡.env open_code.code
    → ∥ Made 𝓛 𝓜 𝓡 2 2 (map pos (5 ∷ 6 ∷ 77 ∷ [])) july ∥₁
unfolding opening_refusal
july_made 𝓛 𝓜 𝓡 w =
    made 𝓛 𝓜 𝓡 2 2 (map pos (5 ∷ 6 ∷ 77 ∷ [])) july w refl (Fits-lit tt) (Fits-lit tt)
    (record { each_fits = fitting (5 ∷ 6 ∷ 77 ∷ []) tt; room = room i64 3 tt tt })
    july_fits
    refl
    refl
