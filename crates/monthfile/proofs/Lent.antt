-- A reading's promise, were it lent something else that is the same: what two calls lent alike are compared by. Assumes nothing.
use Rattle.std.proofs.Common.{ℕ, ◌≡◌, subst, List}
use Rattle.rules.specs.declared.Agent.{Agent}
use Rattle.rules.specs.declared.Point.{Point}
use Rattle.rules.specs.declared.User.{User}
use Rattle.monthfile.specs.Reads.{Reads}
use Rattle.monthfile.specs.Demand1.{ReadCall}

-- c's promise, were it lent these
abbrev pub Lent : ReadCall → List ℕ → ℕ → List Agent → List User → List Point → Type 0
Lent c t from agents users points = Reads t from agents users points c.agents_left c.users_left c.points_left c.answer

abbrev pub Promised : ReadCall → Type 0
Promised c = Lent c c.text c.from c.agents c.users c.points

-- from another position that is the same, into slices that are
pub lent_alike :
    (c : ReadCall) (from : ℕ) (agents : List Agent) (users : List User) (points : List Point)
    → c.from ≡ from
    → c.agents ≡ agents
    → c.users ≡ users
    → c.points ≡ points
    → Promised c
    → Lent c c.text from agents users points
lent_alike c from agents users points f a u p x =
    let x₁ = subst (λ (k : ℕ). Lent c c.text k c.agents c.users c.points) f x in
    let x₂ = subst (λ (ls : List Agent). Lent c c.text from ls c.users c.points) a x₁ in
    let x₃ = subst (λ (us : List User). Lent c c.text from agents us c.points) u x₂ in
    subst (λ (ps : List Point). Lent c c.text from agents users ps) p x₃
