-- The work slice's first part takes the marks; fresh arrays take what rows and columns need. Each call's promise is the next one's premise.
use Rattle.std.proofs.Common.{◌≡◌, ℕ, ◌*◌, ◌≤◌, false, List, length, take, sym, ap, ◌∙◌, arith, length-take}
use Rattle.cells.specs.Finish.{part_long, part_clear, unsigned, given, cells_small, wanted, laid}
use Rattle.cells.proofs.fill.Goals as goal

part_of : (xs : List ℕ) (m : ℕ) {n n' : ℕ} → m * n ≤ length xs → n' ≡ n → length (take (m * n) xs) ≡ m * n'
part_of xs m h e = simp length-take (omega (arith, ap (λ (t : ℕ). m * t) e))

pub naturals-w-requires : goal.naturals-w-requires
naturals-w-requires c = unsigned c.requires.0 _ (part_long 0 512 (length c.args.vd.now) c.requires.0.users)

pub floors-requires : goal.floors-requires
floors-requires c =
    let m = length c.args.vc.now in
    let n = length c.args.vd.now in
    let F = c.requires.0 in
    let N = c.naturals-w.ensures in
    let l : length c.naturals-w.new.debits ≡ n = N.wrote.long ∙ part_long 0 512 n F.users in (
      given F (part_long 0 512 n F.users) N,
      record {
        cells_long = c.requires.1 ∙ ap (λ (t : ℕ). m * t) (sym l);
        marks_long = part_of c.args.work.now m c.requires.2 l;
        lacks_long = part_long 0 257 m F.payees;
        wants_long = part_long 0 512 n F.users ∙ sym l;
        lefts_long = part_long 0 512 n F.users ∙ sym l;
        no_wants = part_clear 512 n;
        no_lefts = part_clear 512 n;
      },
    )

pub place-requires : goal.place-requires
place-requires c =
    let m = length c.args.vc.now in
    let n = length c.args.vd.now in
    let F = c.requires.0 in
    let N = c.naturals-w.ensures in
    let f = c.floors in
    let t = f.new.self in
    let l : length c.naturals-w.new.debits ≡ n = N.wrote.long ∙ part_long 0 512 n F.users in
    let cells : length t.marks.now ≡ m * length c.naturals-w.new.debits = f.ensures.1 ∙ part_of c.args.work.now m c.requires.2 l in
    let tall : length t.lacks.now ≡ m = f.ensures.2 ∙ part_long 0 257 m F.payees in
    let wide : length t.wants.now ≡ length c.naturals-w.new.debits = f.ensures.3 ∙ part_long 0 512 n F.users ∙ sym l in
    rw (part_long false 257 m F.payees, part_long false 512 n F.users)
    (rw l at (wanted (given F (part_long 0 512 n F.users) N) f.ensures.0 (rw (tall, wide) at c.deal.ensures) cells tall wide))

pub post-requires : goal.post-requires
post-requires c =
    let m = length c.args.vc.now in
    let n = length c.args.vd.now in
    let F = c.requires.0 in
    let N = c.naturals-w.ensures in
    let f = c.floors in
    let d = c.deal in
    let p = c.place in
    let l : length c.naturals-w.new.debits ≡ n = N.wrote.long ∙ part_long 0 512 n F.users in
    let cells : length f.new.cells ≡ m * length c.naturals-w.new.debits = f.auto.cells ∙ c.requires.1 ∙ ap (λ (t : ℕ). m * t) (sym l) in
    record {
      long = p.ensures.0 ∙ d.ensures.cells ∙ f.ensures.1 ∙ part_of c.args.work.now m c.requires.2 l ∙ sym cells;
      marked = λ q. p.ensures.1.kind.small q (d.ensures.kind.small q (omega (arith, f.ensures.0.left.clear q)));
      small = cells_small (given F (part_long 0 512 n F.users) N) f.ensures.0 cells;
    }

pub returns : goal.returns
returns c =
    let m = length c.args.vc.now in
    let n = length c.args.vd.now in
    let F = c.requires.0 in
    let f = c.floors in
    laid F (part_long 0 512 n F.users) c.naturals-w.ensures f.ensures.0 (f.auto.cells ∙ c.requires.1)
    (f.ensures.2 ∙ part_long 0 257 m F.payees)
    (f.ensures.3 ∙ part_long 0 512 n F.users)
    c.deal.ensures
    (part_long false 257 m F.payees)
    (part_long false 512 n F.users)
    c.place.ensures.1
    c.post.new.cells
    c.post.ensures
