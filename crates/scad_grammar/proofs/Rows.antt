-- Worked rows: what tokens are, by computation.
use Rattle.std.proofs.Common.{◌≡◌, ℕ, ◌*◌, pos, true, false, List, [], ◌∷◌, Some, None, Ok, Err, refl, codes}
use Rattle.std.specs.Prelude.{Result, map, option_map}
use Rattle.scad_fault.specs.declared.place.Place.{Place}
use Rattle.scad_lex.specs.declared.token.Token.{Token}
use Rattle.scad_lex.specs.declared.token.Sign.{Sign as SignName}
use Rattle.scad_lex.specs.declared.token.Sign.TheVariants as Signs
use Rattle.scad_lex.specs.declared.token.Key.{Key as KeyName}
use Rattle.scad_lex.specs.declared.token.Key.TheVariants as Keys
use Rattle.scad_ast.specs.declared.operator.UnOp.TheVariants.{Not, Minus as UnaryMinus}
use Rattle.scad_ast.specs.declared.operator.BinOp.TheVariants as Ops
use Rattle.scad_ast.specs.Tree.{number, name, vector, range, stepped, unary, binary, choose, index, member, call}
use Rattle.scad_ast.specs.Tree.{let_in, assert_in, echo_in, no_arguments, argument, no_elements, element, item, each}
use Rattle.scad_ast.specs.Tree.{for_each, for_loop, let_element, if_else, no_items, entry, assignment, module_of}
use Rattle.scad_ast.specs.Tree.{function_of, call_of, choice, Items}
use Rattle.scad_grammar.specs.Tokens.{sign, key, word, numeral}
use Rattle.scad_grammar.specs.Machine.{Refusal, start, outcome, outcome_of, reach, step, finish, judge_move}
use Rattle.scad_grammar.specs.Machine.{judge_end, syntax_at, left_out_at}
use Rattle.scad_grammar.specs.State.{open_count}
use Rattle.scad_grammar.specs.Steps.{prim_step, unary_step, expression_step, element_step, end_arguments}
use Rattle.scad_grammar.specs.Steps.{after_argument_step, arguments_step, end_parameters, after_parameter_step}
use Rattle.scad_grammar.specs.Steps.{after_one_step, member_step, after_element, after_expression, tested_step}
use Rattle.scad_grammar.specs.Steps.{after_operand, post_step, name_step, word_argument}
use Rattle.scad_grammar.specs.StatementSteps.{marked_step, first_step, definition_step, statement_step}
use Rattle.scad_grammar.specs.StatementSteps.{word_statement, child_step, after_items, finish_items, parameters_step}

-- all stand on the first line
abbrev at : ℕ → Place
at col = record { line = 1; col = col }

abbrev w : List ℕ → ℕ → Token
w text col = word text (at col)

abbrev s : SignName → ℕ → Token
s what col = sign what (at col)

abbrev k : KeyName → ℕ → Token
k what col = key what (at col)

abbrev n : ℕ → ℕ → Token
n whole col = numeral (pos (1000000 * whole)) (at col)

-- a source's tokens, the column of its end, and what it is
record Source : Type 0 where
  tokens : List Token
  end : ℕ
  answer : Result Items Refusal

abbrev source : List Token → ℕ → Result Items Refusal → Source
source tokens end answer = record { tokens = tokens; end = end; answer = answer }

abbrev sources : List Source
sources =
    -- cube(1
    source (w (codes "cube") 1 ∷ s Signs.OpenRound 5 ∷ n 1 6 ∷ []) 7 (Err (syntax_at (at 7)))
    -- cube(1);
    ∷ source (w (codes "cube") 1 ∷ s Signs.OpenRound 5 ∷ n 1 6 ∷ s Signs.CloseRound 7 ∷ s Signs.Semicolon 8 ∷ []) 9
    (Ok (entry (call_of (at 1) false false (codes "cube")
    (argument None (number (at 6) (pos 1000000)) no_arguments) no_items) no_items))
    -- x=1+2*3-4;
    ∷ source (w (codes "x") 1 ∷ s Signs.Assign 2 ∷ n 1 3 ∷ s Signs.Plus 4 ∷ n 2 5 ∷ s Signs.Star 6 ∷ n 3 7
    ∷ s Signs.Minus 8 ∷ n 4 9 ∷ s Signs.Semicolon 10 ∷ []) 11
    (Ok (entry (assignment (at 1) (codes "x")
    (binary (at 8) Ops.Sub (binary (at 4) Ops.Add (number (at 3) (pos 1000000))
    (binary (at 6) Ops.Mul (number (at 5) (pos 2000000)) (number (at 7) (pos 3000000))))
    (number (at 9) (pos 4000000)))) no_items))
    -- a = 2 ^ 3;
    ∷ source (w (codes "a") 1 ∷ s Signs.Assign 3 ∷ n 2 5 ∷ s Signs.Caret 7 ∷ n 3 9 ∷ s Signs.Semicolon 10 ∷ []) 11
    (Err (left_out_at (at 7) (codes "^")))
    -- !cube(1);
    ∷ source (s Signs.Bang 1 ∷ w (codes "cube") 2 ∷ s Signs.OpenRound 6 ∷ n 1 7 ∷ s Signs.CloseRound 8
    ∷ s Signs.Semicolon 9 ∷ []) 10 (Err (left_out_at (at 1) (codes "!")))
    -- x = function(a) a;
    ∷ source (w (codes "x") 1 ∷ s Signs.Assign 3 ∷ k Keys.Function 5 ∷ s Signs.OpenRound 13 ∷ w (codes "a") 14
    ∷ s Signs.CloseRound 15 ∷ w (codes "a") 17 ∷ s Signs.Semicolon 18 ∷ []) 19
    (Err (left_out_at (at 5) (codes "function")))
    -- x = 1 + function(a) a;
    ∷ source (w (codes "x") 1 ∷ s Signs.Assign 3 ∷ n 1 5 ∷ s Signs.Plus 7 ∷ k Keys.Function 9 ∷ s Signs.OpenRound 17
    ∷ w (codes "a") 18 ∷ s Signs.CloseRound 19 ∷ w (codes "a") 21 ∷ s Signs.Semicolon 22 ∷ []) 23
    (Err (syntax_at (at 9)))
    -- include <a.scad>
    ∷ source (k Keys.Include 1 ∷ s Signs.Less 9 ∷ w (codes "a") 10 ∷ s Signs.Dot 11 ∷ w (codes "scad") 12
    ∷ s Signs.Greater 16 ∷ []) 17 (Err (left_out_at (at 1) (codes "include")))
    -- # include
    ∷ source (s Signs.Hash 1 ∷ k Keys.Include 3 ∷ []) 10 (Err (syntax_at (at 3)))
    -- if(a) b(); else if (c) d(); else { e(); f=1; }
    ∷ source (k Keys.If 1 ∷ s Signs.OpenRound 3 ∷ w (codes "a") 4 ∷ s Signs.CloseRound 5 ∷ w (codes "b") 7
    ∷ s Signs.OpenRound 8 ∷ s Signs.CloseRound 9 ∷ s Signs.Semicolon 10 ∷ k Keys.Else 12 ∷ k Keys.If 17
    ∷ s Signs.OpenRound 20 ∷ w (codes "c") 21 ∷ s Signs.CloseRound 22 ∷ w (codes "d") 24 ∷ s Signs.OpenRound 25
    ∷ s Signs.CloseRound 26 ∷ s Signs.Semicolon 27 ∷ k Keys.Else 29 ∷ s Signs.OpenCurly 34 ∷ w (codes "e") 36
    ∷ s Signs.OpenRound 37 ∷ s Signs.CloseRound 38 ∷ s Signs.Semicolon 39 ∷ w (codes "f") 41 ∷ s Signs.Assign 42
    ∷ n 1 43 ∷ s Signs.Semicolon 44 ∷ s Signs.CloseCurly 46 ∷ []) 47
    (Ok (entry (choice (at 1) false false (name (at 4) (codes "a"))
    (entry (call_of (at 7) false false (codes "b") no_arguments no_items) no_items)
    (entry (choice (at 17) false false (name (at 21) (codes "c"))
    (entry (call_of (at 24) false false (codes "d") no_arguments no_items) no_items)
    (entry (call_of (at 36) false false (codes "e") no_arguments no_items)
    (entry (assignment (at 41) (codes "f") (number (at 43) (pos 1000000))) no_items))) no_items)) no_items))
    -- module m(a, b=2,) { cube(a); }
    ∷ source (k Keys.Module 1 ∷ w (codes "m") 8 ∷ s Signs.OpenRound 9 ∷ w (codes "a") 10 ∷ s Signs.Comma 11
    ∷ w (codes "b") 13 ∷ s Signs.Assign 14 ∷ n 2 15 ∷ s Signs.Comma 16 ∷ s Signs.CloseRound 17
    ∷ s Signs.OpenCurly 19 ∷ w (codes "cube") 21 ∷ s Signs.OpenRound 25 ∷ w (codes "a") 26
    ∷ s Signs.CloseRound 27 ∷ s Signs.Semicolon 28 ∷ s Signs.CloseCurly 30 ∷ []) 31
    (Ok (entry (module_of (at 1) (codes "m") (record {
      name = (codes "a");
      default = None;
    } ∷ (record { name = (codes "b"); default = (Some (number (at 15) (pos 2000000))) } ∷
    [])) (entry (call_of (at 21) false false (codes "cube")
    (argument None (name (at 26) (codes "a")) no_arguments) no_items) no_items)) no_items))
    -- module m() if(a) b(); else c();
    ∷ source (k Keys.Module 1 ∷ w (codes "m") 8 ∷ s Signs.OpenRound 9 ∷ s Signs.CloseRound 10 ∷ k Keys.If 12
    ∷ s Signs.OpenRound 14 ∷ w (codes "a") 15 ∷ s Signs.CloseRound 16 ∷ w (codes "b") 18 ∷ s Signs.OpenRound 19
    ∷ s Signs.CloseRound 20 ∷ s Signs.Semicolon 21 ∷ k Keys.Else 23 ∷ w (codes "c") 28 ∷ s Signs.OpenRound 29
    ∷ s Signs.CloseRound 30 ∷ s Signs.Semicolon 31 ∷ []) 32
    (Ok (entry (module_of (at 1) (codes "m") []
    (entry (choice (at 12) false false (name (at 15) (codes "a"))
    (entry (call_of (at 18) false false (codes "b") no_arguments no_items) no_items)
    (entry (call_of (at 28) false false (codes "c") no_arguments no_items) no_items)) no_items)) no_items))
    -- function f(x) = x ? 1 : [2, x, ];
    ∷ source (k Keys.Function 1 ∷ w (codes "f") 10 ∷ s Signs.OpenRound 11 ∷ w (codes "x") 12 ∷ s Signs.CloseRound 13
    ∷ s Signs.Assign 15 ∷ w (codes "x") 17 ∷ s Signs.Question 19 ∷ n 1 21 ∷ s Signs.Colon 23
    ∷ s Signs.OpenSquare 25 ∷ n 2 26 ∷ s Signs.Comma 27 ∷ w (codes "x") 29 ∷ s Signs.Comma 30
    ∷ s Signs.CloseSquare 32 ∷ s Signs.Semicolon 33 ∷ []) 34
    (Ok (entry (function_of (at 1) (codes "f") (record { name = (codes "x"); default = None } ∷ [])
    (choose (at 19) (name (at 17) (codes "x")) (number (at 21) (pos 1000000))
    (vector (at 25) (element (item (number (at 26) (pos 2000000)))
    (element (item (name (at 29) (codes "x"))) no_elements))))) no_items))
    -- *cube(1); %#sphere();
    ∷ source (s Signs.Star 1 ∷ w (codes "cube") 2 ∷ s Signs.OpenRound 6 ∷ n 1 7 ∷ s Signs.CloseRound 8
    ∷ s Signs.Semicolon 9 ∷ s Signs.Percent 11 ∷ s Signs.Hash 12 ∷ w (codes "sphere") 13 ∷ s Signs.OpenRound 19
    ∷ s Signs.CloseRound 20 ∷ s Signs.Semicolon 21 ∷ []) 22
    (Ok (entry (call_of (at 13) true true (codes "sphere") no_arguments no_items) no_items))
    -- x=[let(a=1) a];
    ∷ source (w (codes "x") 1 ∷ s Signs.Assign 2 ∷ s Signs.OpenSquare 3 ∷ k Keys.Let 4 ∷ s Signs.OpenRound 7
    ∷ w (codes "a") 8 ∷ s Signs.Assign 9 ∷ n 1 10 ∷ s Signs.CloseRound 11 ∷ w (codes "a") 13
    ∷ s Signs.CloseSquare 14 ∷ s Signs.Semicolon 15 ∷ []) 16
    (Ok (entry (assignment (at 1) (codes "x")
    (vector (at 3) (element (item
    (let_in (at 4) (argument (Some (codes "a")) (number (at 10) (pos 1000000)) no_arguments)
    (name (at 13) (codes "a")))) no_elements))) no_items))
    -- x=[let(a=1) for(i=[1]) i];
    ∷ source (w (codes "x") 1 ∷ s Signs.Assign 2 ∷ s Signs.OpenSquare 3 ∷ k Keys.Let 4 ∷ s Signs.OpenRound 7
    ∷ w (codes "a") 8 ∷ s Signs.Assign 9 ∷ n 1 10 ∷ s Signs.CloseRound 11 ∷ k Keys.For 13 ∷ s Signs.OpenRound 16
    ∷ w (codes "i") 17 ∷ s Signs.Assign 18 ∷ s Signs.OpenSquare 19 ∷ n 1 20 ∷ s Signs.CloseSquare 21
    ∷ s Signs.CloseRound 22 ∷ w (codes "i") 24 ∷ s Signs.CloseSquare 25 ∷ s Signs.Semicolon 26 ∷ []) 27
    (Ok (entry (assignment (at 1) (codes "x")
    (vector (at 3) (element (let_element (at 4)
    (argument (Some (codes "a")) (number (at 10) (pos 1000000)) no_arguments)
    (for_each (at 13) (argument (Some (codes "i"))
    (vector (at 19) (element (item (number (at 20) (pos 1000000))) no_elements)) no_arguments)
    (item (name (at 24) (codes "i"))))) no_elements))) no_items))
    -- x=[let(a=1) let(b=2) if(a) b else a];
    ∷ source (w (codes "x") 1 ∷ s Signs.Assign 2 ∷ s Signs.OpenSquare 3 ∷ k Keys.Let 4 ∷ s Signs.OpenRound 7
    ∷ w (codes "a") 8 ∷ s Signs.Assign 9 ∷ n 1 10 ∷ s Signs.CloseRound 11 ∷ k Keys.Let 13 ∷ s Signs.OpenRound 16
    ∷ w (codes "b") 17 ∷ s Signs.Assign 18 ∷ n 2 19 ∷ s Signs.CloseRound 20 ∷ k Keys.If 22
    ∷ s Signs.OpenRound 24 ∷ w (codes "a") 25 ∷ s Signs.CloseRound 26 ∷ w (codes "b") 28 ∷ k Keys.Else 30
    ∷ w (codes "a") 35 ∷ s Signs.CloseSquare 36 ∷ s Signs.Semicolon 37 ∷ []) 38
    (Ok (entry (assignment (at 1) (codes "x")
    (vector (at 3) (element (let_element (at 4)
    (argument (Some (codes "a")) (number (at 10) (pos 1000000)) no_arguments)
    (let_element (at 13) (argument (Some (codes "b")) (number (at 19) (pos 2000000)) no_arguments)
    (if_else (at 22) (name (at 25) (codes "a")) (item (name (at 28) (codes "b")))
    (item (name (at 35) (codes "a")))))) no_elements))) no_items))
    -- x=[for(i=0;i<3;i=i+1) i];
    ∷ source (w (codes "x") 1 ∷ s Signs.Assign 2 ∷ s Signs.OpenSquare 3 ∷ k Keys.For 4 ∷ s Signs.OpenRound 7
    ∷ w (codes "i") 8 ∷ s Signs.Assign 9 ∷ n 0 10 ∷ s Signs.Semicolon 11 ∷ w (codes "i") 12 ∷ s Signs.Less 13
    ∷ n 3 14 ∷ s Signs.Semicolon 15 ∷ w (codes "i") 16 ∷ s Signs.Assign 17 ∷ w (codes "i") 18 ∷ s Signs.Plus 19
    ∷ n 1 20 ∷ s Signs.CloseRound 21 ∷ w (codes "i") 23 ∷ s Signs.CloseSquare 24 ∷ s Signs.Semicolon 25 ∷ []) 26
    (Ok (entry (assignment (at 1) (codes "x")
    (vector (at 3) (element (for_loop (at 4)
    (argument (Some (codes "i")) (number (at 10) (pos 0)) no_arguments)
    (binary (at 13) Ops.Lt (name (at 12) (codes "i")) (number (at 14) (pos 3000000)))
    (argument (Some (codes "i"))
    (binary (at 19) Ops.Add (name (at 18) (codes "i")) (number (at 20) (pos 1000000))) no_arguments)
    (item (name (at 23) (codes "i")))) no_elements))) no_items))
    -- x=[each [1,2], 3];
    ∷ source (w (codes "x") 1 ∷ s Signs.Assign 2 ∷ s Signs.OpenSquare 3 ∷ k Keys.Each 4 ∷ s Signs.OpenSquare 9 ∷ n 1
    10
    ∷ s Signs.Comma 11 ∷ n 2 12 ∷ s Signs.CloseSquare 13 ∷ s Signs.Comma 14 ∷ n 3 16 ∷ s Signs.CloseSquare 17
    ∷ s Signs.Semicolon 18 ∷ []) 19
    (Ok (entry (assignment (at 1) (codes "x")
    (vector (at 3) (element (each (at 4)
    (item (vector (at 9) (element (item (number (at 10) (pos 1000000)))
    (element (item (number (at 12) (pos 2000000))) no_elements)))))
    (element (item (number (at 16) (pos 3000000))) no_elements)))) no_items))
    -- x=[0:1:2];
    ∷ source (w (codes "x") 1 ∷ s Signs.Assign 2 ∷ s Signs.OpenSquare 3 ∷ n 0 4 ∷ s Signs.Colon 5 ∷ n 1 6
    ∷ s Signs.Colon 7 ∷ n 2 8 ∷ s Signs.CloseSquare 9 ∷ s Signs.Semicolon 10 ∷ []) 11
    (Ok (entry (assignment (at 1) (codes "x")
    (stepped (at 3) (number (at 4) (pos 0)) (number (at 6) (pos 1000000)) (number (at 8) (pos 2000000))))
    no_items))
    -- x=[let(a=1) a:2];
    ∷ source (w (codes "x") 1 ∷ s Signs.Assign 2 ∷ s Signs.OpenSquare 3 ∷ k Keys.Let 4 ∷ s Signs.OpenRound 7
    ∷ w (codes "a") 8 ∷ s Signs.Assign 9 ∷ n 1 10 ∷ s Signs.CloseRound 11 ∷ w (codes "a") 13 ∷ s Signs.Colon 14
    ∷ n 2 15 ∷ s Signs.CloseSquare 16 ∷ s Signs.Semicolon 17 ∷ []) 18
    (Ok (entry (assignment (at 1) (codes "x")
    (range (at 3) (let_in (at 4) (argument (Some (codes "a")) (number (at 10) (pos 1000000)) no_arguments)
    (name (at 13) (codes "a"))) (number (at 15) (pos 2000000)))) no_items))
    -- x=[each a:2];
    ∷ source (w (codes "x") 1 ∷ s Signs.Assign 2 ∷ s Signs.OpenSquare 3 ∷ k Keys.Each 4 ∷ w (codes "a") 9
    ∷ s Signs.Colon 10 ∷ n 2 11 ∷ s Signs.CloseSquare 12 ∷ s Signs.Semicolon 13 ∷ []) 14
    (Err (syntax_at (at 10)))
    -- x=a.x[1](2);
    ∷ source (w (codes "x") 1 ∷ s Signs.Assign 2 ∷ w (codes "a") 3 ∷ s Signs.Dot 4 ∷ w (codes "x") 5
    ∷ s Signs.OpenSquare 6 ∷ n 1 7 ∷ s Signs.CloseSquare 8 ∷ s Signs.OpenRound 9 ∷ n 2 10
    ∷ s Signs.CloseRound 11 ∷ s Signs.Semicolon 12 ∷ []) 13 (Err (syntax_at (at 9)))
    -- x=-a[0].y + !b;
    ∷ source (w (codes "x") 1 ∷ s Signs.Assign 2 ∷ s Signs.Minus 3 ∷ w (codes "a") 4 ∷ s Signs.OpenSquare 5 ∷ n 0 6
    ∷ s Signs.CloseSquare 7 ∷ s Signs.Dot 8 ∷ w (codes "y") 9 ∷ s Signs.Plus 11 ∷ s Signs.Bang 13
    ∷ w (codes "b") 14 ∷ s Signs.Semicolon 15 ∷ []) 16
    (Ok (entry (assignment (at 1) (codes "x")
    (binary (at 11) Ops.Add (unary (at 3) UnaryMinus
    (member (at 8) (index (at 5) (name (at 4) (codes "a")) (number (at 6) (pos 0))) (codes "y")))
    (unary (at 13) Not (name (at 14) (codes "b"))))) no_items))
    -- x=f(a, b=2,);
    ∷ source (w (codes "x") 1 ∷ s Signs.Assign 2 ∷ w (codes "f") 3 ∷ s Signs.OpenRound 4 ∷ w (codes "a") 5
    ∷ s Signs.Comma 6 ∷ w (codes "b") 8 ∷ s Signs.Assign 9 ∷ n 2 10 ∷ s Signs.Comma 11 ∷ s Signs.CloseRound 12
    ∷ s Signs.Semicolon 13 ∷ []) 14
    (Ok (entry (assignment (at 1) (codes "x")
    (call (at 3) (codes "f") (argument None (name (at 5) (codes "a"))
    (argument (Some (codes "b")) (number (at 10) (pos 2000000)) no_arguments)))) no_items))
    -- x=f(,);
    ∷ source (w (codes "x") 1 ∷ s Signs.Assign 2 ∷ w (codes "f") 3 ∷ s Signs.OpenRound 4 ∷ s Signs.Comma 5
    ∷ s Signs.CloseRound 6 ∷ s Signs.Semicolon 7 ∷ []) 8 (Err (syntax_at (at 5)))
    -- x=[,];
    ∷ source (w (codes "x") 1 ∷ s Signs.Assign 2 ∷ s Signs.OpenSquare 3 ∷ s Signs.Comma 4 ∷ s Signs.CloseSquare 5
    ∷ s Signs.Semicolon 6 ∷ []) 7 (Err (syntax_at (at 4)))
    -- x=1 + let(a=1) a;
    ∷ source (w (codes "x") 1 ∷ s Signs.Assign 2 ∷ n 1 3 ∷ s Signs.Plus 5 ∷ k Keys.Let 7 ∷ s Signs.OpenRound 10
    ∷ w (codes "a") 11 ∷ s Signs.Assign 12 ∷ n 1 13 ∷ s Signs.CloseRound 14 ∷ w (codes "a") 16
    ∷ s Signs.Semicolon 17 ∷ []) 18 (Err (syntax_at (at 7)))
    -- x=let(a=1) assert(a) echo(a) a;
    ∷ source (w (codes "x") 1 ∷ s Signs.Assign 2 ∷ k Keys.Let 3 ∷ s Signs.OpenRound 6 ∷ w (codes "a") 7 ∷ s
    Signs.Assign 8
    ∷ n 1 9 ∷ s Signs.CloseRound 10 ∷ k Keys.Assert 12 ∷ s Signs.OpenRound 18 ∷ w (codes "a") 19
    ∷ s Signs.CloseRound 20 ∷ k Keys.Echo 22 ∷ s Signs.OpenRound 26 ∷ w (codes "a") 27 ∷ s Signs.CloseRound 28
    ∷ w (codes "a") 30 ∷ s Signs.Semicolon 31 ∷ []) 32
    (Ok (entry (assignment (at 1) (codes "x")
    (let_in (at 3) (argument (Some (codes "a")) (number (at 9) (pos 1000000)) no_arguments)
    (assert_in (at 12) (argument None (name (at 19) (codes "a")) no_arguments)
    (echo_in (at 22) (argument None (name (at 27) (codes "a")) no_arguments)
    (name (at 30) (codes "a")))))) no_items))
    -- x={
    ∷ source (w (codes "x") 1 ∷ s Signs.Assign 2 ∷ s Signs.OpenCurly 3 ∷ []) 4 (Err (syntax_at (at 3)))
    -- for(i=[0:2]) translate(v=[i,0]) { cube(1); module m() {} }
    ∷ source (k Keys.For 1 ∷ s Signs.OpenRound 4 ∷ w (codes "i") 5 ∷ s Signs.Assign 6 ∷ s Signs.OpenSquare 7 ∷ n 0 8
    ∷ s Signs.Colon 9 ∷ n 2 10 ∷ s Signs.CloseSquare 11 ∷ s Signs.CloseRound 12 ∷ w (codes "translate") 14
    ∷ s Signs.OpenRound 23 ∷ w (codes "v") 24 ∷ s Signs.Assign 25 ∷ s Signs.OpenSquare 26 ∷ w (codes "i") 27
    ∷ s Signs.Comma 28 ∷ n 0 29 ∷ s Signs.CloseSquare 30 ∷ s Signs.CloseRound 31 ∷ s Signs.OpenCurly 33
    ∷ w (codes "cube") 35 ∷ s Signs.OpenRound 39 ∷ n 1 40 ∷ s Signs.CloseRound 41 ∷ s Signs.Semicolon 42
    ∷ k Keys.Module 44 ∷ w (codes "m") 51 ∷ s Signs.OpenRound 52 ∷ s Signs.CloseRound 53 ∷ s Signs.OpenCurly 55
    ∷ s Signs.CloseCurly 56 ∷ s Signs.CloseCurly 58 ∷ []) 59 (Err (syntax_at (at 44)))
    -- ;{}
    ∷ source (s Signs.Semicolon 1 ∷ s Signs.OpenCurly 2 ∷ s Signs.CloseCurly 3 ∷ []) 4 (Ok no_items)
    -- else
    ∷ source (k Keys.Else 1 ∷ []) 5 (Err (syntax_at (at 1)))
    -- x=a ? b : c ? d : e;
    ∷ source (w (codes "x") 1 ∷ s Signs.Assign 2 ∷ w (codes "a") 3 ∷ s Signs.Question 5 ∷ w (codes "b") 7
    ∷ s Signs.Colon 9 ∷ w (codes "c") 11 ∷ s Signs.Question 13 ∷ w (codes "d") 15 ∷ s Signs.Colon 17
    ∷ w (codes "e") 19 ∷ s Signs.Semicolon 20 ∷ []) 21
    (Ok (entry (assignment (at 1) (codes "x")
    (choose (at 5) (name (at 3) (codes "a")) (name (at 7) (codes "b"))
    (choose (at 13) (name (at 11) (codes "c")) (name (at 15) (codes "d")) (name (at 19) (codes "e")))))
    no_items))
    -- x=(1;
    ∷ source (w (codes "x") 1 ∷ s Signs.Assign 2 ∷ s Signs.OpenRound 3 ∷ n 1 4 ∷ s Signs.Semicolon 5 ∷ []) 6
    (Err (syntax_at (at 5)))
    ∷ []

sources_are_answered : map (λ r. outcome_of r.tokens (at r.end)) sources ≡ map (λ r. r.answer) sources
unfolding outcome step finish judge_move judge_end prim_step unary_step expression_step element_step end_arguments
    after_argument_step arguments_step end_parameters after_parameter_step after_one_step member_step
    after_element after_expression tested_step after_operand post_step name_step word_argument marked_step
    first_step definition_step statement_step word_statement child_step after_items finish_items parameters_step
sources_are_answered = refl

-- tokens, and how many constructs stand open behind them
record Opening : Type 0 where
  tokens : List Token
  count : ℕ

abbrev opening : List Token → ℕ → Opening
opening tokens count = record { tokens = tokens; count = count }

abbrev openings : List Opening
openings =
    -- union() a();
    opening (w (codes "union") 1 ∷ s Signs.OpenRound 6 ∷ s Signs.CloseRound 7 ∷ w (codes "a") 9 ∷ s Signs.OpenRound 10
    ∷ s Signs.CloseRound 11 ∷ s Signs.Semicolon 12 ∷ []) 0
    -- if(a) b();
    ∷ opening (k Keys.If 1 ∷ s Signs.OpenRound 3 ∷ w (codes "a") 4 ∷ s Signs.CloseRound 5 ∷ w (codes "b") 7
    ∷ s Signs.OpenRound 8 ∷ s Signs.CloseRound 9 ∷ s Signs.Semicolon 10 ∷ []) 1
    -- union() {a();
    ∷ opening (w (codes "union") 1 ∷ s Signs.OpenRound 6 ∷ s Signs.CloseRound 7 ∷ s Signs.OpenCurly 9 ∷ w
    (codes "a") 10
    ∷ s Signs.OpenRound 11 ∷ s Signs.CloseRound 12 ∷ s Signs.Semicolon 13 ∷ []) 2
    -- if(a) b(); else c();
    ∷ opening (k Keys.If 1 ∷ s Signs.OpenRound 3 ∷ w (codes "a") 4 ∷ s Signs.CloseRound 5 ∷ w (codes "b") 7
    ∷ s Signs.OpenRound 8 ∷ s Signs.CloseRound 9 ∷ s Signs.Semicolon 10 ∷ k Keys.Else 12 ∷ w (codes "c") 17
    ∷ s Signs.OpenRound 18 ∷ s Signs.CloseRound 19 ∷ s Signs.Semicolon 20 ∷ []) 0
    -- module m() ;
    ∷ opening (k Keys.Module 1 ∷ w (codes "m") 8 ∷ s Signs.OpenRound 9 ∷ s Signs.CloseRound 10 ∷ s Signs.Semicolon
    12 ∷ []) 0
    ∷ []

openings_are_counted : map (λ r. option_map open_count (reach start r.tokens)) openings
    ≡ map (λ r. Some r.count) openings
unfolding reach step prim_step unary_step expression_step element_step end_arguments after_argument_step
    arguments_step end_parameters after_parameter_step after_one_step member_step after_element after_expression
    tested_step after_operand post_step name_step word_argument marked_step first_step definition_step
    statement_step word_statement child_step after_items parameters_step
openings_are_counted = refl
