-- Statements by what they hold.
use Rattle.std.proofs.Common.{◌≡◌, List, ℕ, Vec, Global, sym, ap, ◌∙◌}
use Rattle.scad_ast.specs.declared.expression.Arg.{Arg}
use Rattle.scad_ast.specs.declared.expression.Expr.{Expr}
use Rattle.scad_ast.specs.declared.statement.Item.{Item}
use Rattle.scad_ast.specs.declared.statement.Stmt.{Stmt}
use Rattle.scad_ast.specs.declared.statement.StmtBody.{Call, If}
use Rattle.scad_ast.specs.Scope.{body_of, items}
use Rattle.scad_ast.specs.Tree.{call_of, choice}
use Rattle.scad_ast.specs.View.{expression_of, arguments}
use Rattle.scad_ast.proofs.ScopeRows.{call_view, choice_view}

pub call_statement : (s : Stmt) (name word : List ℕ) (args : Vec Arg Global) (all : Vec Item Global)
    → s.body ≡ Call name args all → word ≡ name → call_of s.at s.percent s.hash word (arguments args.items)
    (items all.items) ≡ body_of s.at s.percent s.hash s.body
call_statement s name word args all is named =
    ap (λ w. call_of s.at s.percent s.hash w (arguments args.items) (items all.items)) named
    ∙ sym (call_view s.at s.percent s.hash name args all) ∙ ap (body_of s.at s.percent s.hash) (sym is)

pub choice_statement : (s : Stmt) (test : Expr) (held other : Vec Item Global) → s.body ≡ If test held other
    → choice s.at s.percent s.hash (expression_of test) (items held.items) (items other.items) ≡ body_of s.at s.percent
    s.hash s.body
choice_statement s test held other is =
    sym (choice_view s.at s.percent s.hash test held other) ∙ ap (body_of s.at s.percent s.hash) (sym is)
