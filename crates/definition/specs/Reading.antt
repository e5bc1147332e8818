-- Reading: any bytes to a contract, or to the first fault. The order of the tests is document 01's: "8, 1, 2, then reading
-- order; at an item: tag missing (3, place is the image length), tag unknown (4), level (5), count (6), fields one by one
-- (3 before 4). Then 7". In every definition `at` is the offset in the image at which the bytes s begin.
use Rattle.std.specs.Prelude.{ℕ, zero, suc, ◌+◌, List, Bool, not, ◌&&◌, length, get_or, take, drop, ltb, leb, eqb, Ok, Err}
use Rattle.definition.specs.declared.Location.{Location}
use Rattle.definition.specs.declared.Kind.{Kind}
use Rattle.definition.specs.declared.Kind.TheVariants.{TooLong, NotMarked, OtherVersion, BadMode, LeftOver, TagMissing, TagUnknown, TooDeep, TooMany, CutShort, OpUnknown, BadFlag, BadBoolean}
use Rattle.definition.specs.declared.Tally.{Tally}
use Rattle.definition.specs.declared.Forks.{Forks}
use Rattle.definition.specs.declared.Head.{Head}
use Rattle.definition.specs.declared.Tag.{Tag}
use Rattle.definition.specs.declared.Tag.TheVariants.{Variable, Number, Boolean, Text, Logical, Compare, Unary, Binary, Hash, Checksig, Length}
use Rattle.definition.specs.declared.Sort.{Sort}
use Rattle.definition.specs.declared.Sort.TheVariants.{If, Locktime, Verify, Return}
use Rattle.definition.specs.Bytes.{when◌then◌else◌, be16, be32, be64, signed}
use Rattle.definition.specs.Fault.{Read, fault, ◌>>=◌, ◌>>◌, refuse}
use Rattle.definition.specs.Tree.{Expr, Stmt, ifs, ifelse, locktime, verify, ret, Block, done, next, Contract}

-- counts of "statements" and "expression nodes", from their parts
abbrev pub tally : ℕ → ℕ → Tally
tally s n = record { stmts = s; nodes = n }

-- one of the "items in prefix order", or a list of them, that was read: the tree, the counts with it, and the offset of s at which it
-- ends; for an item, which begins s, that is its size
pub record Part (A : Type 0) : Type 0 where
  pub tree : A
  pub tally : Tally
  pub size : ℕ

-- what was read, from its parts
abbrev pub part : {A : Type 0} → A → Tally → ℕ → Part A
part x t z = record { tree = x; tally = t; size = z }

-- ---- what every item begins with

-- "a location (start, end, line, column, 32 bits each)" after the tag at the front of s
unfoldable pub location_of : List ℕ → Location
location_of s = record { start = be32 s 1; end = be32 s 5; line = be32 s 9; column = be32 s 13 }

-- the same four, "fields one by one"
unfoldable pub located : ℕ → List ℕ → Read (Unit {0})
located at s = do
  refuse (ltb (length s) 5) (fault CutShort at (at + 1))
  refuse (ltb (length s) 9) (fault CutShort at (at + 5))
  refuse (ltb (length s) 13) (fault CutShort at (at + 9))
  refuse (ltb (length s) 17) (fault CutShort at (at + 13))

-- "level (5), count (6), fields one by one": at an item whose tag is known, with so many levels left and so many items counted before, of
-- which `most` are taken
unfoldable pub entered : ℕ → ℕ → ℕ → ℕ → List ℕ → Read (Unit {0})
entered most level counted at s = do
  refuse (eqb level 0) (fault TooDeep at at)
  refuse (leb most counted) (fault TooMany at at)
  located at s

-- "at an item: tag missing (3, place is the image length), tag unknown (4), level (5), count (6), fields one by one": the tag
unfoldable pub begin : {T : Type 0} → (ℕ → ℕ → Read T) → ℕ → ℕ → ℕ → ℕ → List ℕ → Read T
begin tag_of most level counted at s = do
  refuse (eqb (length s) 0) (fault TagMissing at at)
  t ← tag_of (get_or s 0 0) at
  entered most level counted at s
  Ok t

-- ---- expressions

-- "unknown tag (a statement's where an expression is due, or the reverse, counts so)"
unfoldable pub expr_tag : ℕ → ℕ → Read Tag
expr_tag b at =
    when eqb b 16 then Ok Variable else
    when eqb b 17 then Ok Number else
    when eqb b 18 then Ok Boolean else
    when eqb b 19 then Ok Text else
    when eqb b 20 then Ok Logical else
    when eqb b 21 then Ok Compare else
    when eqb b 22 then Ok Unary else
    when eqb b 23 then Ok Binary else
    when eqb b 24 then Ok Hash else
    when eqb b 25 then Ok Checksig else
    when eqb b 26 then Ok Length else
    Err (fault TagUnknown at at)

-- an "op, flag, mode or boolean" after the location: a byte below n, "3 before 4"; the next field begins at 18
unfoldable pub code_field : Kind → ℕ → ℕ → List ℕ → Read ℕ
code_field k n at s = do
  refuse (ltb (length s) 18) (fault CutShort at (at + 17))
  refuse (leb n (get_or s 17 0)) (fault k at (at + 17))
  Ok 18

-- "64-bit two's complement"
unfoldable pub number_field : ℕ → List ℕ → Read ℕ
number_field at s = do
  refuse (ltb (length s) 25) (fault CutShort at (at + 17))
  Ok 25

-- a string: "16-bit length, the bytes that would be pushed"
unfoldable pub string_field : ℕ → List ℕ → Read ℕ
string_field at s = do
  refuse (ltb (length s) 19) (fault CutShort at (at + 17))
  refuse (ltb (length s) (19 + be16 s 17)) (fault CutShort at (at + 19))
  Ok (19 + be16 s 17)

-- the "Fields after the location" of an expression: where its operands begin
unfoldable pub fields : Tag → ℕ → List ℕ → Read ℕ
fields Variable at s = Ok 17
fields Number at s = number_field at s
fields Boolean at s = code_field BadBoolean 2 at s
fields Text at s = string_field at s
fields Logical at s = code_field OpUnknown 2 at s
fields Compare at s = code_field OpUnknown 8 at s
fields Unary at s = code_field OpUnknown 5 at s
fields Binary at s = code_field OpUnknown 4 at s
fields Hash at s = code_field OpUnknown 2 at s
fields Checksig at s = Ok 17
fields Length at s = Ok 17

-- an expression without operands, or one that wants an "operand", or "left; right"
pub data Node : Type 0 where
  leaf : Expr → Node
  of_one : (Expr → Expr) → Node
  of_two : (Expr → Expr → Expr) → Node

-- the table of document 01, tags 16 to 26
unfoldable pub node_of : Tag → List ℕ → Node
node_of Variable s = leaf (Expr.variable (location_of s))
node_of Number s = leaf (Expr.number (location_of s) (signed (be64 s 17)))
node_of Boolean s = leaf (Expr.boolean (location_of s) (get_or s 17 0))
node_of Text s = leaf (Expr.text (location_of s) (take (be16 s 17) (drop 19 s)))
node_of Logical s = of_two (Expr.logical (location_of s) (get_or s 17 0))
node_of Compare s = of_two (Expr.compare (location_of s) (get_or s 17 0))
node_of Unary s = of_one (Expr.unary (location_of s) (get_or s 17 0))
node_of Binary s = of_two (Expr.binary (location_of s) (get_or s 17 0))
node_of Hash s = of_one (Expr.hash (location_of s) (get_or s 17 0))
node_of Checksig s = leaf (Expr.checksig (location_of s))
node_of Length s = of_one (Expr.length (location_of s))

-- a reader of one item: the counts before it, its offset, the bytes from its tag on (no sentence of its own)
abbrev pub Reader : Type 0 → Type 0
Reader A = Tally → ℕ → List ℕ → Read (Part A)

-- "operand", or "left; right", the first of them `from` bytes after the tag
unfoldable pub operands : Node → Reader Expr → ℕ → Reader Expr
operands (leaf e) operand from t at s = Ok (part e t from)
operands (of_one make) operand from t at s = do
  a ← operand t (at + from) (drop from s)
  Ok (part (make a.tree) a.tally (from + a.size))
operands (of_two make) operand from t at s = do
  a ← operand t (at + from) (drop from s)
  b ← operand a.tally (at + (from + a.size)) (drop (from + a.size) s)
  Ok (part (make a.tree b.tree) b.tally (from + a.size + b.size))

-- "then the fields", and the operands
unfoldable pub by_tag : Tag → Reader Expr → Reader Expr
by_tag k operand t at s = do
  from ← fields k at s
  operands (node_of k s) operand from t at s

-- "1,024 expression nodes; expression level 32 (a root is level 1)": with so many levels left; with none left `begin` has refused
unfoldable pub expr : ℕ → Reader Expr
expr zero t at s = do
  k ← begin expr_tag 1024 0 t.nodes at s
  Err (fault TooDeep at at)
expr (suc l) t at s = do
  k ← begin expr_tag 1024 (suc l) t.nodes at s
  by_tag k (expr l) (tally t.stmts (t.nodes + 1)) at s

-- ---- statements

-- "or the reverse, counts so"
unfoldable pub stmt_tag : ℕ → ℕ → Read Sort
stmt_tag b at =
    when eqb b 1 then Ok If else
    when eqb b 2 then Ok Locktime else
    when eqb b 3 then Ok Verify else
    when eqb b 4 then Ok Return else
    Err (fault TagUnknown at at)

-- "items in prefix order": `many` statements from offset `off` of s on
unfoldable pub items : Reader Stmt → ℕ → Tally → ℕ → ℕ → List ℕ → Read (Part Block)
items item zero t off at s = Ok (part done t off)
items item (suc many) t off at s = do
  x ← item t (at + off) (drop off s)
  b ← items item many x.tally (off + x.size) at s
  Ok (part (next x.tree b.tree) b.tally b.size)

-- an if's "16-bit count of the if block", that of the else block, and where the condition begins, from their parts
abbrev pub forks : ℕ → ℕ → ℕ → Forks
forks y n f = record { yes = y; no = n; from = f }

-- "the same for the else block if the flag is 1"
unfoldable pub else_field : ℕ → List ℕ → Read Forks
else_field at s = do
  refuse (ltb (length s) 22) (fault CutShort at (at + 20))
  Ok (forks (be16 s 18) (be16 s 20) 22)

-- "else flag 0/1; 16-bit count of the if block; the same for the else block if the flag is 1". No else is read as one of no statements
unfoldable pub if_fields : ℕ → List ℕ → Read Forks
if_fields at s = do
  _ ← code_field BadFlag 2 at s
  refuse (ltb (length s) 20) (fault CutShort at (at + 18))
  when eqb (get_or s 17 0) 0 then Ok (forks (be16 s 18) 0 20) else else_field at s

-- "else flag 0/1": an if without an else, or with one
unfoldable pub make_if : ℕ → Location → Expr → Block → Block → Stmt
make_if flag p e a b = when eqb flag 0 then ifs p e a else ifelse p e a b

-- "condition; blocks"
unfoldable pub if_stmt : Reader Stmt → Reader Stmt
if_stmt item t at s = do
  f ← if_fields at s
  e ← expr 32 t (at + f.from) (drop f.from s)
  a ← items item f.yes e.tally (f.from + e.size) at s
  b ← items item f.no a.tally a.size at s
  Ok (part (make_if (get_or s 17 0) (location_of s) e.tree a.tree b.tree) b.tally b.size)

-- "op 0 Cltv, 1 Csv; 64-bit signed operand"
unfoldable pub lock_stmt : Reader Stmt
lock_stmt t at s = do
  _ ← code_field OpUnknown 2 at s
  refuse (ltb (length s) 26) (fault CutShort at (at + 18))
  Ok (part (locktime (location_of s) (get_or s 17 0) (signed (be64 s 18))) t 26)

-- "verify, return": an expression
unfoldable pub expr_stmt : (Location → Expr → Stmt) → Reader Stmt
expr_stmt make t at s = do
  e ← expr 32 t (at + 17) (drop 17 s)
  Ok (part (make (location_of s) e.tree) e.tally (17 + e.size))

-- the table of document 01, tags 1 to 4
unfoldable pub by_sort : Sort → Reader Stmt → Reader Stmt
by_sort If item t at s = if_stmt item t at s
by_sort Locktime item t at s = lock_stmt t at s
by_sort Verify item t at s = expr_stmt verify t at s
by_sort Return item t at s = expr_stmt ret t at s

-- "512 statements; ..; statement level 16 (the top list is level 1": with so many levels left; with none left `begin` has refused
unfoldable pub stmt : ℕ → Reader Stmt
stmt zero t at s = do
  k ← begin stmt_tag 512 0 t.stmts at s
  Err (fault TooDeep at at)
stmt (suc l) t at s = do
  k ← begin stmt_tag 512 (suc l) t.stmts at s
  by_sort k (stmt l) (tally (t.stmts + 1) t.nodes) at s

-- ---- the whole image

-- "`BVN`", "`BVC`": B, V and a third letter
unfoldable pub marked : ℕ → List ℕ → Bool
marked letter s = eqb (get_or s 0 0) 66 && (eqb (get_or s 1 0) 86 && eqb (get_or s 2 0) letter)

-- "Head of 8 bytes: `BVN`, 16-bit version 1, mode (0 or 1), 16-bit count of top statements", field by field; a fault's item is the
-- field
unfoldable pub head : List ℕ → Read Head
head s = do
  refuse (ltb 32768 (length s)) (fault TooLong 0 0)
  refuse (ltb (length s) 3) (fault NotMarked 0 0)
  refuse (not (marked 78 s)) (fault NotMarked 0 0)
  refuse (ltb (length s) 5) (fault CutShort 3 3)
  refuse (not (eqb (be16 s 3) 1)) (fault OtherVersion 3 3)
  refuse (ltb (length s) 6) (fault CutShort 5 5)
  refuse (leb 2 (get_or s 5 0)) (fault BadMode 5 5)
  refuse (ltb (length s) 8) (fault CutShort 6 6)
  Ok (record { mode = get_or s 5 0; count = be16 s 6 })

-- the head, the top list, and "bytes left over" (7): refusals 1 to 8
unfoldable pub read : List ℕ → Read Contract
read s = do
  h ← head s
  b ← items (stmt 16) h.count (tally 0 0) 8 0 s
  refuse (ltb b.size (length s)) (fault LeftOver b.size b.size)
  Ok (record { mode = h.mode; block = b.tree })
