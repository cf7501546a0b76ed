mod WriteLaws
