-- The codes of the machine's instructions, by the names that they go by. Assumes nothing.
use Rattle.std.specs.Prelude.{ℕ}

abbrev pub START : ℕ
START = 1

abbrev pub HLT : ℕ
HLT = 2

abbrev pub LDC : ℕ
LDC = 3

abbrev pub LDV : ℕ
LDV = 4

abbrev pub STR : ℕ
STR = 5

abbrev pub ADD : ℕ
ADD = 6

abbrev pub SUB : ℕ
SUB = 7

abbrev pub MULT : ℕ
MULT = 8

abbrev pub DIVI : ℕ
DIVI = 9

abbrev pub INV : ℕ
INV = 10

abbrev pub AND : ℕ
AND = 11

abbrev pub OR : ℕ
OR = 12

abbrev pub NEG : ℕ
NEG = 13

abbrev pub CME : ℕ
CME = 14

abbrev pub CMA : ℕ
CMA = 15

abbrev pub CEQ : ℕ
CEQ = 16

abbrev pub CDIF : ℕ
CDIF = 17

abbrev pub CMEQ : ℕ
CMEQ = 18

abbrev pub CMAQ : ℕ
CMAQ = 19

abbrev pub JMP : ℕ
JMP = 20

abbrev pub JMPF : ℕ
JMPF = 21

abbrev pub RD : ℕ
RD = 22

abbrev pub PRN : ℕ
PRN = 23

abbrev pub ALLOC : ℕ
ALLOC = 24

abbrev pub DALLOC : ℕ
DALLOC = 25

abbrev pub CALL : ℕ
CALL = 26

abbrev pub RETURN : ℕ
RETURN = 27
