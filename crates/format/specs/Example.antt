-- Paper 01's example file ("The month file"): its text as the paper prints it, each user line with a 0 for
-- `ong` (paper 02, Q-1), and its values. Assumes nothing.
use Prim.Native.String.{String, ◌++◌}
use Rattle.std.specs.Prelude.{[], ◌∷◌, pos}
use Rattle.format.specs.Grammar.{File}

-- "Input:" (paper 01, "The month file")
abbrev pub input : String
input =
    "month,ons\n202407,100\n"
    ++ "agent,pb,pv,afs,rfs,pa,ret\n1,1000,0,0,0,0,4\n2,2000,30,0,0,25,0\n"
    ++ "user,kind,ret,ong\n1,2,0,0\n2,3,0,0\n"
    ++ "at,tp,tf,dp,df,mp,mf,vp,vf\n1,1000,500,0,0,3,2,3,2\n2,2000,0,50,0,16,0,16,0\n"

-- its values
abbrev pub values : File
values =
    record {
      month = pos 202407;
      ons = pos 100;
      agents =
          (pos 1 ∷ pos 1000 ∷ pos 0 ∷ pos 0 ∷ pos 0 ∷ pos 0 ∷ pos 4 ∷ [])
          ∷ (pos 2 ∷ pos 2000 ∷ pos 30 ∷ pos 0 ∷ pos 0 ∷ pos 25 ∷ pos 0 ∷ [])
          ∷ [];
      users = (pos 1 ∷ pos 2 ∷ pos 0 ∷ pos 0 ∷ []) ∷ (pos 2 ∷ pos 3 ∷ pos 0 ∷ pos 0 ∷ []) ∷ [];
      points =
          (pos 1 ∷ pos 1000 ∷ pos 500 ∷ pos 0 ∷ pos 0 ∷ pos 3 ∷ pos 2 ∷ pos 3 ∷ pos 2 ∷ [])
          ∷ (pos 2 ∷ pos 2000 ∷ pos 0 ∷ pos 50 ∷ pos 0 ∷ pos 16 ∷ pos 0 ∷ pos 16 ∷ pos 0 ∷ [])
          ∷ [];
    }
